-- Spans and gatherings are the smallest arcs that hold what they must.
use Rattle.std.proofs.Common.{◌≡◌, ℕ, ◌-◌, ◌<◌, ◌≤◌, true, ◌⊎◌, List, map, IfSome, Some, None, Option, sym, refl, ap, ◌∙◌, subst, inl, inr, arith, MatchOption}
use Rattle.std.proofs.lemmas.Bool.{leb-true}
use Rattle.std.specs.Option.{option_or}
use Rattle.scan.specs.Depth as stretches
use Rattle.scan.specs.Depth.{Below}
use Rattle.scan.specs.Live.{run, Runs}
use Rattle.scan.specs.declared.stretch.Stretch.{Stretch}
use Rattle.scan.proofs.Counting.{from_to}
use Rattle.domain.specs.Maps.{pieces, times, Inside, Fits, Holds, Members, Gathered, Smallest}
use Rattle.domain.proofs.Members.{named, members_pieces}
use Rattle.dial.specs.declared.arc.Arc.{Arc}
use Rattle.dial.specs.Arcs.{point, holds, within, begin, end, span, depth, deep, along, gather, extent, dial}
use Rattle.dial.proofs.Gathers.{found_runs, found_gather}
use Rattle.dial.specs.Lawful.{laid, ran, spanned, gather_holds, span_within, held}
use Rattle.dial.specs.Offsets.{point_below, offset_point}
use Rattle.dial.specs.Slices.{relative, from_to_true, from_to_parts, nested}

-- the i-th point of x is held by what it holds
place_held : (x p : Arc) (i : ℕ) → within p x ≡ true → i < x.len → begin x p ≤ i → i < end x p → holds p (point x.start i) ≡ true
place_held x p i w h low high =
    let l : i < 3600 = omega (arith, x.most) in
    relative x p (point x.start i) w (point_below x.start i x.placed (omega arith))
    ∙ ap (from_to (begin x p) (end x p)) (offset_point x.start i x.placed l)
    ∙ from_to_true (begin x p) (end x p) i low high

held_place : (x p : Arc) (i : ℕ) → within p x ≡ true → i < x.len → holds p (point x.start i) ≡ true → (begin x p ≤ i) × (i < end x p)
held_place x p i w h e =
    let l : i < 3600 = omega (arith, x.most) in
    from_to_parts (begin x p) (end x p) i
    (sym (ap (from_to (begin x p) (end x p)) (offset_point x.start i x.placed l)) ∙ sym (relative x p (point x.start i) w (point_below x.start i x.placed (omega arith))) ∙ e)

-- what holds the points of p reaches as far as p
reaches : (x p t : Arc) → within p x ≡ true → within t x ≡ true → ((n : ℕ) → holds p n ≡ true → holds t n ≡ true) → (begin x t ≤ begin x p) × (end x p ≤ end x t)
reaches x p t w v h =
    let e = leb-true (end x p) x.len w in
    let s = p.some in
    let first = held_place x t (begin x p) v (omega arith) (h (point x.start (begin x p)) (place_held x p (begin x p) w (omega arith) (omega arith) (omega arith))) in
    let last = held_place x t (end x p - 1) v (omega arith) (h (point x.start (end x p - 1)) (place_held x p (end x p - 1) w (omega arith) (omega arith) (omega arith))) in
    (first.0, omega (arith, last.1))

-- either of two, where they are there
abbrev In : Option Arc → Option Arc → ℕ → Type 0
In one other n = Holds dial one n ⊎ Holds dial other n

two : (x p q : Arc) → within p x ≡ true → within q x ≡ true → Smallest dial x (In (Some p) (Some q)) (span x (Some p) (Some q))
two x p q v w =
    let b = spanned x p q v w in
    let s = subst (λ o. MatchOption o ⊥ (λ c. (within c x ≡ true) × (within p c ≡ true) × (within q c ≡ true))) b.1 (span_within x p q v w) in
    subst (Smallest dial x (In (Some p) (Some q))) (sym b.1) (
      b.4,
      (λ n h. elim h [ inl i ↦ held p b.0 s.1 n i | inr i ↦ held q b.0 s.2 n i ]),
      λ t u h.
          let l = reaches x p t v u (λ n i. h n (inl i)) in
          let m = reaches x q t w u (λ n i. h n (inr i)) in
          nested x t b.0 (omega (arith, b.2, l, m)) (omega (arith, b.2, b.3, l, m, p.some)),
    )

pub span_smallest : (x : Arc) (one other : Option Arc) → Fits dial x one → Fits dial x other → Smallest dial x (In one other) (span x one other)
span_smallest x None None f g = λ n h. elim h [ inl i ↦ i | inr i ↦ i ]
span_smallest x None (Some q) f g = (g, (λ n h. elim h [ inl i ↦ absurd i | inr i ↦ i ]), λ t v h. let r = reaches x q t g v (λ n i. h n (inr i)) in nested x t q r.0 r.1)
span_smallest x (Some p) None f g = (f, (λ n h. elim h [ inl i ↦ i | inr i ↦ absurd i ]), λ t v h. let r = reaches x p t f v (λ n i. h n (inl i)) in nested x t p r.0 r.1)
span_smallest x (Some p) (Some q) f g = two x p q f g

along_smallest : (x : Arc) (ps : List Arc) (k : ℕ) (r : Option Stretch) → 0 < k → Inside dial x ps → Runs (deep x ps k) 0 x.len r → ((n : ℕ) → k ≤ times dial n ps → Holds dial (along x r) n) → Smallest dial x (λ n. k ≤ times dial n ps) (along x r)
along_smallest x ps k None some a f h = h
along_smallest x ps k (Some s) some a f h =
    let b = laid x ps k s f in
    let u = f.1 in
    let v = f.2 in
    subst (Smallest dial x (λ n. k ≤ times dial n ps)) (sym b.1) (
      b.4,
      (λ n i. subst (λ o. Holds dial o n) b.1 (h n i)),
      λ t w g.
          let low = held_place x t s.low w (omega arith) (g (point x.start s.low) (leb-true k (depth x ps s.low) f.3)) in
          let high = held_place x t s.high w (omega arith) (g (point x.start s.high) (leb-true k (depth x ps s.high) f.4)) in
          nested x t b.0 (omega (arith, b.2, low)) (omega (arith, b.2, b.3, high)),
    )

pub gather_smallest : (x : Arc) (ps : List Arc) (k : ℕ) → 0 < k → Inside dial x ps → Smallest dial x (λ n. k ≤ times dial n ps) (gather x ps k)
gather_smallest x ps k some a =
    along_smallest x ps k (run (deep x ps k) 0 x.len) some a (ran x ps k) (gather_holds x ps k some a)

-- where there are not both, the span is the one that is there
pub span_or : (x : Arc) (one other : Option Arc) → ((p q : Arc) → one ≡ Some p → other ≡ Some q → ⊥) → option_or one other ≡ span x one other
span_or x None other n = refl
span_or x (Some p) None n = refl
span_or x (Some p) (Some q) n = absurd (n p q refl refl)

-- what a call of span answers, and one of gather
pub span_answer : (x : Arc) (one other r : Option Arc) → Fits dial x one → Fits dial x other → r ≡ span x one other → ((Fits dial x one × Fits dial x other) × (r ≡ span x one other)) × Smallest dial x (λ n. Holds dial one n ⊎ Holds dial other n) r
span_answer x one other r f g e = (((f, g), e), subst (Smallest dial x (In one other)) (sym e) (span_smallest x one other f g))

module _ (x : Arc) (ns : List ℕ) (k : ℕ) (r : Option Stretch) (some : 0 < k) (m : Members dial x ns) (found : (b : ℕ) → 0 < k → Below b (map (extent x) ns) → r ≡ run (stretches.deep k (map (extent x) ns)) 0 b) where
  bounds : (ps : List Arc) (s : Option Stretch) → Runs (deep x ps k) 0 x.len s → IfSome s (λ t. (t.low ≤ t.high) × (t.high < x.len))
  bounds ps None f = tt
  bounds ps (Some s) f = (f.1, f.2)

  pub gather_fits : IfSome r (λ s. (s.low ≤ s.high) × (s.high < x.len))
  gather_fits =
      let p = members_pieces dial x ns m in
      bounds p.0 r (found_runs x ns p.0 k r some (named dial ns p.0 p.1) p.2 found)

  pub gather_answer : (o : Option Arc) → o ≡ along x r → (((0 < k) × Members dial x ns) × Gathered dial x ns k o) × MatchOption (pieces dial ns) ⊥ (λ ps. Smallest dial x (λ n. k ≤ times dial n ps) o)
  gather_answer o e =
      let p = members_pieces dial x ns m in
      let q : o ≡ gather x p.0 k = e ∙ found_gather x ns p.0 k r some (named dial ns p.0 p.1) p.2 found in (
        ((some, m), subst (λ l. MatchOption l ⊥ (λ ps. o ≡ gather x ps k)) (sym p.1) q),
        subst (λ l. MatchOption l ⊥ (λ ps. Smallest dial x (λ n. k ≤ times dial n ps) o)) (sym p.1)
            (subst (Smallest dial x (λ n. k ≤ times dial n p.0)) (sym q) (gather_smallest x p.0 k some p.2)),
      )
