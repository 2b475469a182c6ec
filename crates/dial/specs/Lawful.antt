-- The dial keeps the laws of a domain.
use Rattle.std.specs.Prelude.{◌≡◌, ℕ, suc, ◌+◌, ◌-◌, ◌/◌, ◌%◌, ◌<◌, ◌≤◌, min, max, true, false, cond, List, [], ◌∷◌, length, Some, None, Option, MatchOption, nat_le, nat_lt, refl}
use Rattle.std.proofs.Common.{arith, inl, inr, sym, ap, ap₂, subst, ◌∙◌}
use Rattle.std.proofs.Math.Path.{fun_ext}
use Rattle.std.specs.Option.{unwrap_or, option_to_list}
use Rattle.std.specs.List.Sorted.{IsPermutation}
use Rattle.std.proofs.ByRecursion.{All-append}
use Rattle.std.proofs.lemmas.List.{length-append}
use Rattle.std.proofs.lemmas.List.Sorted.{sum_by-IsPermutation}
use Rattle.std.proofs.lemmas.List.Sums.{sum_by-append, count_by-le-length}
use Rattle.std.proofs.lemmas.Bool.{cases_lt, both_ways, and_parts, leb-true, ltb-true, le-leb, lt-leb}
use Rattle.std.proofs.lemmas.Bool.Decides.{nat_tests}
use Rattle.scan.specs.Count.{bit, count_below}
use Rattle.scan.specs.Live.{run, Runs}
use Rattle.scan.specs.Powers.{log_up}
use Rattle.scan.specs.declared.stretch.Stretch.{Stretch}
use Rattle.scan.proofs.Counting.{from_to, count_from_to, sum_ext, sum_add}
use Rattle.scan.proofs.Logs.{log_up_least, log_up_mono, log_up_half}
use Rattle.scan.proofs.Runs.{run_is, run_unique}
use Rattle.domain.specs.Laws.{Laws}
use Rattle.domain.specs.Maps.{points, times, Parts, Inside, Fits, Holds}
use Rattle.domain.proofs.Totals.{times_cons, times_held}
use Rattle.dial.specs.declared.arc.Arc.{Arc}
use Rattle.dial.specs.Arcs.{arc_of, point, offset, holds, within, part, begin, end, halves, strips, span, depth, deep, along, gather, number, arc_numbered, dial}
use Rattle.dial.specs.Made.{arc_own, arc_is, same_arc}
use Rattle.dial.specs.Offsets.{offset_cases, offset_self, offset_none, offset_by, offset_below, point_offset}
use Rattle.dial.specs.Slices.{holds_beyond, relative, sliced, slice_times, slice_beyond, slice_within, placed_bit, from_to_true, meeting, nested}

-- an arc's points are the two runs before and after the turn of the dial
two_runs : (a : Arc) (n : ℕ) → bit (holds a n) ≡ bit (from_to a.start (min (a.start + a.len) 3600) n) + bit (from_to 0 (a.start + a.len - 3600) n)
two_runs a n =
    elim (cases_lt n 3600) [
      | inl h ↦ let c = offset_cases a.start n a.placed h in let m = a.most in let s = a.placed in grind (arith, nat_tests)
      | inr h ↦ let m = a.most in let s = a.placed in grind (arith, nat_tests)
    ]

counted : (a : Arc) → a.len ≡ count_below (holds a) points
counted a =
    let f : ℕ → ℕ = λ n. bit (from_to a.start (min (a.start + a.len) 3600) n) in
    let g : ℕ → ℕ = λ n. bit (from_to 0 (a.start + a.len - 3600) n) in
    sym (sum_ext (λ n. bit (holds a n)) (λ n. f n + g n) points (λ n _. two_runs a n)
    ∙ sum_add f g points
    ∙ omega (arith, count_from_to a.start (min (a.start + a.len) 3600) points, count_from_to 0 (a.start + a.len - 3600) points, a.most, a.placed))

begin_self : (a : Arc) → begin a a ≡ 0
begin_self a = offset_self a.start a.placed

reflexive : (a : Arc) → within a a ≡ true
reflexive a = le-leb (end a a) a.len (omega (arith, begin_self a))

transitive : (p q r : Arc) → within p q ≡ true → within q r ≡ true → within p r ≡ true
transitive p q r v w =
    le-leb (end r p) r.len
    (omega (arith, leb-true (end q p) q.len v, leb-true (end r q) r.len w, r.most, p.some, offset_by r.start q.start p.start r.placed q.placed p.placed, offset_below r.start p.start r.placed p.placed))

pub held : (q p : Arc) → within q p ≡ true → (n : ℕ) → holds q n ≡ true → holds p n ≡ true
held q p w n h =
    elim (cases_lt n 3600) [
      | inl l ↦
          let e = leb-true (end p q) p.len w in
          let i = sym (relative p q n w l) ∙ h in
          grind (arith, nat_tests)
      | inr l ↦ let f = holds_beyond q n l in let z : false ≡ true = sym f ∙ h in cc
    ]

whole : (q p : Arc) → within q p ≡ true → q.len ≡ p.len → q ≡ p
whole q p w e =
    let f = leb-true (end p q) p.len w in
    same_arc q p (sym (offset_none p.start q.start p.placed q.placed (omega (arith, f)))) e

numbered : (a : Arc) → arc_numbered (number a) ≡ Some a
numbered a =
    let most = a.most in
    let s : number a / 4096 ≡ a.start = omega arith in
    let n : number a % 4096 ≡ a.len = omega arith in
    ap₂ arc_of s n ∙ arc_own a

named : (n : ℕ) (a : Arc) → arc_numbered n ≡ Some a → number a ≡ n
named n a e = let i = arc_is (n / 4096) (n % 4096) a e in omega (arith, i)

at_most_one : (o : Option Arc) → length (option_to_list o) ≤ 1
at_most_one None = omega arith
at_most_one (Some a) = omega arith

-- the two halves, as stretches of the arc
module _ (a : Arc) (two : 1 < a.len) where
  low_half : (b : Arc) × ((halves a).0 ≡ b) × (begin a b ≡ 0) × (b.len ≡ a.len / 2) × (within b a ≡ true)
  low_half = let b = sliced a 0 (a.len / 2) (omega arith) (omega arith) in (b.0, ap (λ o. unwrap_or o a) b.1, b.2, b.3, b.4)

  high_half : (b : Arc) × ((halves a).1 ≡ b) × (begin a b ≡ a.len / 2) × (b.len ≡ a.len - a.len / 2) × (within b a ≡ true)
  high_half =
      let b = sliced a (a.len / 2) (a.len - a.len / 2) (omega arith) (omega arith) in
      (b.0, ap (λ o. unwrap_or o a) b.1, b.2, b.3, b.4)

  halves_within : Inside dial a ((halves a).0 ∷ (halves a).1 ∷ [])
  halves_within =
      (subst (λ b. within b a ≡ true) (sym low_half.1) low_half.4, (subst (λ b. within b a ≡ true) (sym high_half.1) high_half.4, tt))

  halved : Parts dial a ((halves a).0 ∷ (halves a).1 ∷ [])
  halved n =
      times_cons dial n (halves a).0 ((halves a).1 ∷ [])
      ∙ ap (λ k. bit (holds (halves a).0 n) + k) (times_cons dial n (halves a).1 [])
      ∙ elim (cases_lt n 3600) [
        | inl h ↦
            let p = ap (λ b. bit (holds b n)) low_half.1 ∙ placed_bit a low_half.0 n 0 (a.len / 2) low_half.4 h low_half.2 (omega (arith, low_half.3)) in
            let q = ap (λ b. bit (holds b n)) high_half.1 ∙ placed_bit a high_half.0 n (a.len / 2) a.len high_half.4 h high_half.2 (omega (arith, high_half.3)) in
            let r = placed_bit a a n 0 a.len (reflexive a) h (begin_self a) (omega arith) in
            let m = meeting 0 (a.len / 2) a.len (offset a.start n) (omega arith) (omega arith) in
            omega (arith, p, q, r, m)
        | inr h ↦ omega (arith, ap bit (holds_beyond (halves a).0 n h), ap bit (holds_beyond (halves a).1 n h), ap bit (holds_beyond a n h))
      ]

  halves_lower : (log_up (halves a).0.len < log_up a.len) × (log_up (halves a).1.len < log_up a.len)
  halves_lower =
      let most = a.most in
      let low : (halves a).0.len ≡ a.len / 2 = ap (λ b. b.len) low_half.1 ∙ low_half.3 in
      let high : (halves a).1.len ≡ a.len - a.len / 2 = ap (λ b. b.len) high_half.1 ∙ high_half.3 in
      (log_up_half (halves a).0.len a.len (omega (arith, low)) two (omega arith), log_up_half (halves a).1.len a.len (omega (arith, high)) two (omega arith))

-- the strips on both sides of q
module _ (p q : Arc) (w : within q p ≡ true) where
  ends : end p q ≤ p.len
  ends = leb-true (end p q) p.len w

  strips_within : Inside dial p (strips p q)
  strips_within =
      All-append (λ b. within b p ≡ true) (option_to_list (part p 0 (begin p q))) (option_to_list (part p (end p q) (p.len - end p q)))
      (slice_within p 0 (begin p q) (omega (arith, ends))) (slice_within p (end p q) (p.len - end p q) (omega (arith, ends)))

  strips_few : length (strips p q) ≤ 4
  strips_few =
      omega (arith, length-append (option_to_list (part p 0 (begin p q))) (option_to_list (part p (end p q) (p.len - end p q))), at_most_one (part p 0 (begin p q)), at_most_one (part p (end p q) (p.len - end p q)))

  stripped : Parts dial p (q ∷ strips p q)
  stripped n =
      let before = option_to_list (part p 0 (begin p q)) in
      let after = option_to_list (part p (end p q) (p.len - end p q)) in
      times_cons dial n q (strips p q)
      ∙ ap (λ k. bit (holds q n) + k) (sum_by-append (λ b. cond (holds b n) 1 0) before after)
      ∙ elim (cases_lt n 3600) [
        | inl h ↦
            let o = offset p.start n in
            let b = slice_times p 0 (begin p q) n (omega (arith, ends)) h in
            let m = placed_bit p q n (begin p q) (end p q) w h refl refl in
            let a = slice_times p (end p q) (p.len - end p q) n (omega (arith, ends)) h in
            let x = placed_bit p p n 0 p.len (reflexive p) h (begin_self p) (omega arith) in
            let c : bit (from_to 0 (0 + begin p q) o) ≡ bit (from_to 0 (begin p q) o) = ap (λ (k : ℕ). bit (from_to 0 k o)) (omega arith) in
            let e : bit (from_to (end p q) (end p q + (p.len - end p q)) o) ≡ bit (from_to (end p q) p.len o) = ap (λ (k : ℕ). bit (from_to (end p q) k o)) (omega (arith, ends)) in
            omega (arith, b, m, a, x, c, e, meeting 0 (begin p q) (end p q) o (omega arith) (omega arith), meeting 0 (end p q) p.len o (omega arith) ends)
        | inr h ↦ omega (arith, ap bit (holds_beyond q n h), slice_beyond n before h, slice_beyond n after h, ap bit (holds_beyond p n h))
      ]

-- where the span of two arcs begins and ends
abbrev pub lower : Arc → Arc → Arc → ℕ
lower x p q = min (begin x p) (begin x q)

abbrev pub upper : Arc → Arc → Arc → ℕ
upper x p q = max (end x p) (end x q)

-- the span of two sub-pieces, as a stretch of x
module _ (x p q : Arc) (v : within p x ≡ true) (w : within q x ≡ true) where
  pub spanned : (b : Arc) × (span x (Some p) (Some q) ≡ Some b) × (begin x b ≡ lower x p q) × (b.len ≡ upper x p q - lower x p q) × (within b x ≡ true)
  spanned =
      let e = leb-true (end x p) x.len v in
      let f = leb-true (end x q) x.len w in
      let s = p.some in
      sliced x (lower x p q) (upper x p q - lower x p q) (omega arith) (omega arith)

  pub span_within : MatchOption (span x (Some p) (Some q)) ⊥ (λ s. (within s x ≡ true) × (within p s ≡ true) × (within q s ≡ true))
  span_within =
      let b = spanned in
      let i = p.some in
      let j = q.some in
      let n = b.2 in
      let m = b.3 in
      subst (λ o. MatchOption o ⊥ (λ s. (within s x ≡ true) × (within p s ≡ true) × (within q s ≡ true))) (sym b.1)
      (b.4, nested x b.0 p (omega arith) (omega arith), nested x b.0 q (omega arith) (omega arith))

-- what a stretch of x is that is a run of deep points
module _ (x : Arc) (ps : List Arc) (k : ℕ) where
  pub ran : Runs (deep x ps k) 0 x.len (run (deep x ps k) 0 x.len)
  ran = run_is (deep x ps k) 0 x.len x.len (omega arith)

  pub laid : (s : Stretch) → Runs (deep x ps k) 0 x.len (Some s) → (b : Arc) × (along x (Some s) ≡ Some b) × (begin x b ≡ s.low) × (b.len ≡ suc s.high - s.low) × (within b x ≡ true)
  laid s f = sliced x s.low (suc s.high - s.low) (omega (arith, f.1)) (omega (arith, f.1, f.2))

  along_within : (r : Option Stretch) → Runs (deep x ps k) 0 x.len r → Fits dial x (along x r)
  along_within None f = tt
  along_within (Some s) f = let b = laid s f in subst (Fits dial x) (sym b.1) b.4

  pub gather_within : Fits dial x (gather x ps k)
  gather_within = along_within (run (deep x ps k) 0 x.len) ran

  along_holds : (n : ℕ) (r : Option Stretch) → Runs (deep x ps k) 0 x.len r → n < 3600 → offset x.start n < x.len → deep x ps k (offset x.start n) ≡ true → Holds dial (along x r) n
  along_holds n None f h l d = both_ways (deep x ps k (offset x.start n)) (f (offset x.start n) (omega arith) l) d
  along_holds n (Some s) f h l d =
      let b = laid s f in
      let t = f.5 (offset x.start n) (omega arith) l d in
      subst (λ o. Holds dial o n) (sym b.1)
      (relative x b.0 n b.4 h ∙ from_to_true (begin x b.0) (end x b.0) (offset x.start n) (omega (arith, b.2, t)) (omega (arith, b.2, b.3, t, f.1)))

  -- the depth of a point is that of its place in x
  depth_at : (n : ℕ) → n < 3600 → depth x ps (offset x.start n) ≡ times dial n ps
  depth_at n h = ap (λ m. times dial m ps) (point_offset x.start n x.placed h)

  pub gather_holds : 0 < k → Inside dial x ps → (n : ℕ) → k ≤ times dial n ps → Holds dial (gather x ps k) n
  gather_holds some a n h =
      let i = times_held dial x n (λ q w. held q x w n) ps a (omega arith) in
      let p = and_parts (nat_lt n 3600) (nat_lt (offset x.start n) x.len) i in
      let l = ltb-true n 3600 p.0 in
      along_holds n (run (deep x ps k) 0 x.len) ran l (ltb-true (offset x.start n) x.len p.1)
      (le-leb k (depth x ps (offset x.start n)) (omega (arith, depth_at n l)))

  gather_few : length ps < k → gather x ps k ≡ None
  gather_few h =
      sym (ap (along x) (run_unique (deep x ps k) 0 x.len x.len (omega arith) None (λ i _ _. lt-leb k (depth x ps i) (omega (arith, count_by-le-length (λ p. holds p (point x.start i)) ps)))))

gather_order : (x : Arc) (ps qs : List Arc) (k : ℕ) → IsPermutation ps qs → gather x ps k ≡ gather x qs k
gather_order x ps qs k s =
    ap (λ f. along x (run f 0 x.len)) (fun_ext (λ i. ap (nat_le k) (sym (sum_by-IsPermutation (λ p. cond (holds p (point x.start i)) 1 0) ps qs s))))

-- 2 ^ 12 is more than 3600
lowest : (a : Arc) → log_up a.len ≤ 24
lowest a = let most = a.most in omega (arith, log_up_least a.len 12 (omega arith) (omega arith))

pub lawful : Laws dial
lawful = record {
  counted = counted;
  some = λ a. a.some;
  reflexive = reflexive;
  transitive = transitive;
  held = held;
  whole = whole;
  numbered = numbered;
  named = named;
  single = λ a e. e;
  larger = λ a h. h;
  halved = halved;
  halves_within = halves_within;
  stripped = stripped;
  strips_within = strips_within;
  strips_few = strips_few;
  span_within = span_within;
  span_left = λ x p w. refl;
  span_right = λ x p w. refl;
  span_none = λ x. refl;
  gather_within = λ x ps k _ _. gather_within x ps k;
  gather_holds = λ x ps k some a. gather_holds x ps k some a;
  gather_few = λ x ps k _ h. gather_few x ps k h;
  gather_order = λ x ps qs k _ _ s. gather_order x ps qs k s;
  height_most = λ a. lowest a;
  height_within = λ q p w. log_up_mono q.len p.len (omega (arith, leb-true (end p q) p.len w)) (omega (arith, p.most));
  height_halves = halves_lower;
}
