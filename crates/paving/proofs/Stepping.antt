-- What a step makes of a piece: parts that share it out, true of the set, few and lower.
use Rattle.std.proofs.Common.{◌≡◌, ℕ, ◌+◌, ◌*◌, ◌<◌, ◌≤◌, Bool, true, false, eqb, leb, List, [], ◌∷◌, ◌++◌, map, length, Some, None, Option, sym, refl, ap, ◌∙◌, subst, ap₂, inl, inr, arith}
use Rattle.std.specs.List.{AllByRecursion}
use Rattle.std.proofs.ByRecursion.{All-append, All-map, All-weaker}
use Rattle.std.proofs.lemmas.List.{length-append, length-map, map-append}
use Rattle.std.proofs.lemmas.List.Sums.{sum_by-cons}
use Rattle.std.proofs.lemmas.Bool.{cases_Bool, cases_eq, eqb-true, eqb-false, leb-true}
use Rattle.scan.specs.Count.{bit}
use Rattle.scan.proofs.Counting.{bit_le, bit_true, count_some}
use Rattle.domain.specs.Laws.{Laws}
use Rattle.domain.specs.Maps.{Maps, Inside as Within, points, times, total, Fits, Holds}
use Rattle.contractor.specs.Meaning.{meaning, Sound}
use Rattle.domain.proofs.Totals.{count_within, alone, times_cons, times_append, times_single, all_by_times, total_parts}
use Rattle.paving.specs.Laws.{AllOf, NoneOf, Small}
use Rattle.paving.specs.Sheet.{Task}
use Rattle.paving.specs.Steps.{Entry, entries, without, left_undecided, put_back, entries_at, back_at, step_entries, step_back}
use Rattle.paving.specs.declared.classes.Class.{Class}
use Rattle.paving.specs.declared.classes.Class.TheVariants.{Inside, Outside, Undecided}

-- what a record of that class says of its piece
abbrev pub Says : {P : Type 0} → Task P → (ℕ → Bool) → Class → P → Type 0
Says t set Inside p = AllOf t.maps set p
Says t set Outside p = NoneOf t.maps set p
Says t set Undecided p = Small t p

-- each waiting piece has as many below it as its height leaves room for
abbrev pub Steep : {P : Type 0} → Maps P → List P → Type 0
Steep d [] = Unit {0}
Steep d (p ∷ ps) = (length ps + d.height p ≤ 24) × Steep d ps

abbrev pub entry_pieces : {P : Type 0} → List (Entry P) → List P
entry_pieces es = map (λ e. e.piece) es

-- What a step makes of x: its records, and what goes back on the pile.
pub record Makes {P : Type 0} (t : Task P) (set : ℕ → Bool) (x : P) (es : List (Entry P)) (back : List P) : Type 0 where
  pub shares : (n : ℕ) → times t.maps n (entry_pieces es) + times t.maps n back ≡ bit (t.maps.holds x n)
  pub records_within : Within t.maps x (entry_pieces es)
  pub back_within : Within t.maps x back
  pub true_of : AllByRecursion (λ e. Says t set e.class e.piece) es
  pub few : length es ≤ 9
  pub lower : (xs : List P) → Steep t.maps (x ∷ xs) → Steep t.maps (back ++ xs)
  pub less : 2 * total t.maps back + 2 ≤ 2 * t.maps.count x + length back

-- the pieces of entries
entries_pieces : {P : Type 0} (c : Class) (ps : List P) → entry_pieces (entries c ps) ≡ ps
entries_pieces c [] = refl
entries_pieces c (p ∷ ps) = ap (λ qs. p ∷ qs) (entries_pieces c ps)

length_entries : {P : Type 0} (c : Class) (ps : List P) → length (entries c ps) ≡ length ps
length_entries c ps = length-map ps (λ p. record { class = c; piece = p })

-- the entries of a step, class by class
module _ {P : Type 0} (outs ins unds : List P) where
  abbrev three : List (Entry P)
  three = entries Outside outs ++ (entries Inside ins ++ entries Undecided unds)

  three_pieces : entry_pieces three ≡ outs ++ (ins ++ unds)
  three_pieces =
      map-append (λ e. e.piece) (entries Outside outs) (entries Inside ins ++ entries Undecided unds)
      ∙ ap₂ ◌++◌ (entries_pieces Outside outs) (map-append (λ e. e.piece) (entries Inside ins) (entries Undecided unds) ∙ ap₂ ◌++◌ (entries_pieces Inside ins) (entries_pieces Undecided unds))

  three_times : (d : Maps P) (n : ℕ) → times d n (entry_pieces three) ≡ times d n outs + times d n ins + times d n unds
  three_times d n = omega (arith, ap (times d n) three_pieces, times_append d n outs (ins ++ unds), times_append d n ins unds)

  three_length : length three ≡ length outs + length ins + length unds
  three_length =
      omega (arith, length-append (entries Outside outs) (entries Inside ins ++ entries Undecided unds), length-append (entries Inside ins) (entries Undecided unds), length_entries Outside outs, length_entries Inside ins, length_entries Undecided unds)

-- sub-pieces of a sub-piece
pub within_up : {P : Type 0} (d : Maps P) (l : Laws d) (x y : P) (ps : List P) → d.within y x ≡ true → Within d y ps → Within d x ps
within_up d l x y ps w = All-weaker (λ p. d.within p y ≡ true) (λ p. d.within p x ≡ true) (λ p v. l.transitive p y x v w) ps

-- the three fates of a rest
data RestOf {P : Type 0} (t : Task P) (r : P) : List P → List P → Type 0 where
  single : t.maps.count r ≡ 1 → RestOf t r [] (r ∷ [])
  small : 1 < t.maps.count r → t.maps.size r ≤ t.grain → RestOf t r (r ∷ []) []
  split : 1 < t.maps.count r → RestOf t r [] ((t.maps.halves r).0 ∷ (t.maps.halves r).1 ∷ [])

module _ {P : Type 0} (t : Task P) (l : Laws t.maps) where
  rest_of : (r : P) → RestOf t r (left_undecided t (Some r)) (put_back t (Some r))
  rest_of r = go (eqb (t.maps.count r) 1) (leb (t.maps.size r) t.grain) refl refl
    where
      go : (a b : Bool) → eqb (t.maps.count r) 1 ≡ a → leb (t.maps.size r) t.grain ≡ b → RestOf t r (elim a [ true ↦ [] | false ↦ elim b [ true ↦ r ∷ [] | false ↦ [] ] ]) (elim a [ true ↦ r ∷ [] | false ↦ elim b [ true ↦ [] | false ↦ (t.maps.halves r).0 ∷ (t.maps.halves r).1 ∷ [] ] ])
      go true b e f = single (eqb-true (t.maps.count r) 1 e)
      go false true e f = small (omega (arith, l.some r, eqb-false (t.maps.count r) 1 e)) (leb-true (t.maps.size r) t.grain f)
      go false false e f = split (omega (arith, l.some r, eqb-false (t.maps.count r) 1 e))

  rest_shares : (r : P) (u b : List P) → RestOf t r u b → (n : ℕ) → times t.maps n u + times t.maps n b ≡ bit (t.maps.holds r n)
  rest_shares r u b (single e) n = omega (arith, times_single t.maps n r)
  rest_shares r u b (small e f) n = omega (arith, times_single t.maps n r)
  rest_shares r u b (split e) n = omega (arith, l.halved r e n)

  rest_decided : (set : ℕ → Bool) (r : P) (u b : List P) → RestOf t r u b → AllByRecursion (Says t set Undecided) u
  rest_decided set r u b (single e) = tt
  rest_decided set r u b (small e f) = ((e, f), tt)
  rest_decided set r u b (split e) = tt

  rest_within : (r : P) (u b : List P) → RestOf t r u b → Within t.maps r u × Within t.maps r b
  rest_within r u b (single e) = (tt, (l.reflexive r, tt))
  rest_within r u b (small e f) = ((l.reflexive r, tt), tt)
  rest_within r u b (split e) = (tt, l.halves_within r e)

  rest_few : (r : P) (u b : List P) → RestOf t r u b → length u ≤ 1
  rest_few r u b (single e) = omega arith
  rest_few r u b (small e f) = omega arith
  rest_few r u b (split e) = omega arith

  rest_lower : (r : P) (u b : List P) → RestOf t r u b → (xs : List P) → length xs + t.maps.height r ≤ 24 → Steep t.maps xs → Steep t.maps (b ++ xs)
  rest_lower r u b (single e) xs h k = (h, k)
  rest_lower r u b (small e f) xs h k = k
  rest_lower r u b (split e) xs h k = let v = l.height_halves r e in (omega (arith, v.0), (omega (arith, v.1), k))

  -- a rest of one point is less than what it is left of
  rest_less : (x r : P) (u b : List P) → 1 < t.maps.count x → t.maps.count r ≤ t.maps.count x → RestOf t r u b → 2 * total t.maps b + 2 ≤ 2 * t.maps.count x + length b
  rest_less x r u b h k (single e) = omega (arith, sum_by-cons t.maps.count r [])
  rest_less x r u b h k (small e f) = omega arith
  rest_less x r u b h k (split e) = omega (arith, total_parts t.maps l r ((t.maps.halves r).0 ∷ (t.maps.halves r).1 ∷ []) (l.halved r e))

  -- one point at least is in every piece
  some_point : (x : P) → (n : ℕ) × (t.maps.holds x n ≡ true)
  some_point x = let k = count_some (t.maps.holds x) points (omega (arith, l.some x, l.counted x)) in (k.0, k.2)

  -- a piece without a sub-piece, what is undecided of that, and what goes back
  module _ (p : P) where
    without_shares : (o : Option P) → Fits t.maps p o → (n : ℕ) → times t.maps n (without t p o) + times t.maps n (left_undecided t o) + times t.maps n (put_back t o) ≡ bit (t.maps.holds p n)
    without_shares None f n = omega (arith, times_single t.maps n p)
    without_shares (Some r) f n =
        omega (arith, l.stripped p r f n, times_cons t.maps n r (t.maps.strips p r), rest_shares r (left_undecided t (Some r)) (put_back t (Some r)) (rest_of r) n)

    without_within : (o : Option P) → Fits t.maps p o → Within t.maps p (without t p o)
    without_within None f = (l.reflexive p, tt)
    without_within (Some r) f = l.strips_within p r f

    rests_within : (o : Option P) → Fits t.maps p o → Within t.maps p (left_undecided t o) × Within t.maps p (put_back t o)
    rests_within None f = (tt, tt)
    rests_within (Some r) f =
        let w = rest_within r (left_undecided t (Some r)) (put_back t (Some r)) (rest_of r) in
        (within_up t.maps l p r (left_undecided t (Some r)) f w.0, within_up t.maps l p r (put_back t (Some r)) f w.1)

    without_few : (o : Option P) → Fits t.maps p o → length (without t p o) + length (left_undecided t o) ≤ 5
    without_few None f = omega arith
    without_few (Some r) f = omega (arith, l.strips_few p r f, rest_few r (left_undecided t (Some r)) (put_back t (Some r)) (rest_of r))

    without_lower : (o : Option P) → Fits t.maps p o → (xs : List P) → length xs + t.maps.height p ≤ 24 → Steep t.maps xs → Steep t.maps (put_back t o ++ xs)
    without_lower None f xs h k = k
    without_lower (Some r) f xs h k = rest_lower r (left_undecided t (Some r)) (put_back t (Some r)) (rest_of r) xs (omega (arith, l.height_within r p f)) k

  undecided_large : (set : ℕ → Bool) (o : Option P) → AllByRecursion (Says t set Undecided) (left_undecided t o)
  undecided_large set None = tt
  undecided_large set (Some r) = rest_decided set r (left_undecided t (Some r)) (put_back t (Some r)) (rest_of r)

bit_held : (b : Bool) → 0 < bit b → b ≡ true
bit_held true h = refl
bit_held false h = absurd (omega arith)

module _ {P : Type 0} (t : Task P) (l : Laws t.maps) (set : ℕ → Bool) (s : Sound t.maps (meaning set t.keep t.shed)) where
  -- a point that is held by a strip is the piece's, and not the sub-piece's
  strip_point : (x p : P) (n : ℕ) → t.maps.within p x ≡ true → 0 < times t.maps n (t.maps.strips x p) → (t.maps.holds x n ≡ true) × (t.maps.holds p n ≡ true → ⊥)
  strip_point x p n w h =
      let st = l.stripped x p w n in
      let cs = times_cons t.maps n p (t.maps.strips x p) in
      (bit_held (t.maps.holds x n) (omega (arith, st, cs)), λ e. omega (arith, st, cs, bit_true (t.maps.holds p n) e, bit_le (t.maps.holds x n)))

  -- strips of what is given up are outside, and so is x where all of it is
  outside_strips : (x p : P) → t.keep x ≡ Some p → t.maps.within p x ≡ true → (n : ℕ) → 0 < times t.maps n (t.maps.strips x p) → set n ≡ false
  outside_strips x p e w n h =
      let k = strip_point x p n w h in
      elim (cases_Bool (set n)) [ inl y ↦ absurd (k.1 (subst (λ o. Holds t.maps o n) e (s.keeps x n k.0 y))) | inr y ↦ y ]

  outside_whole : (x : P) → t.keep x ≡ None → NoneOf t.maps set x
  outside_whole x e n h =
      elim (cases_Bool (set n)) [ inl y ↦ absurd (subst (λ o. Holds t.maps o n) e (s.keeps x n h y)) | inr y ↦ y ]

  -- what is left without the rest is inside
  inside_without : (p : P) (o : Option P) → t.shed p ≡ o → Fits t.maps p o → (n : ℕ) → 0 < times t.maps n (without t p o) → set n ≡ true
  inside_without p None e f n h =
      let k = bit_held (t.maps.holds p n) (omega (arith, times_single t.maps n p)) in
      elim (cases_Bool (set n)) [ inl y ↦ y | inr y ↦ absurd (subst (λ o. Holds t.maps o n) e (s.sheds p n k y)) ]
  inside_without p (Some r) e f n h =
      let k = strip_point p r n f h in
      elim (cases_Bool (set n)) [ inl y ↦ y | inr y ↦ absurd (k.1 (subst (λ o. Holds t.maps o n) e (s.sheds p n k.0 y))) ]

  -- one point is never put back
  one_settled : (x p r : P) → t.keep x ≡ Some p → t.shed p ≡ Some r → t.maps.within p x ≡ true → t.maps.count x ≡ 1 → ⊥
  one_settled x p r e f w c =
      let n = some_point t l x in
      elim (cases_Bool (set n.0)) [
        | inl y ↦
            let none = s.shed_one x n.0 c n.1 y in
            let same = ap t.shed (alone t.maps l p x w c) in
            cc
        | inr y ↦
            let none = s.keep_one x n.0 c n.1 y in
            cc
      ]

  back_less : (x p : P) (o : Option P) → t.keep x ≡ Some p → t.shed p ≡ o → t.maps.within p x ≡ true → Fits t.maps p o → 2 * total t.maps (put_back t o) + 2 ≤ 2 * t.maps.count x + length (put_back t o)
  back_less x p None e f w g = omega (arith, l.some x)
  back_less x p (Some r) e f w g =
      elim (cases_eq (t.maps.count x) 1) [
        | inl c ↦ absurd (one_settled x p r e f w c)
        | inr c ↦
            let more : 1 < t.maps.count x = omega (arith, l.some x) in
            let fewer : t.maps.count r ≤ t.maps.count x = omega (arith, count_within t.maps l r p g, count_within t.maps l p x w) in
            rest_less t l x r (left_undecided t (Some r)) (put_back t (Some r)) more fewer (rest_of t l r)
      ]

  says_entries : (c : Class) (ps : List P) → AllByRecursion (Says t set c) ps → AllByRecursion (λ e. Says t set e.class e.piece) (entries c ps)
  says_entries c ps a = All-map (λ (e : Entry P). Says t set e.class e.piece) (λ p. record { class = c; piece = p }) ps a

  makes_none : (x : P) → t.keep x ≡ None → Makes t set x (entries Outside (x ∷ [])) []
  makes_none x e =
      record {
        shares = λ n. omega (arith, times_single t.maps n x);
        records_within = (l.reflexive x, tt);
        back_within = tt;
        true_of = (outside_whole x e, tt);
        few = omega arith;
        lower = λ xs h. h.1;
        less = omega (arith, l.some x);
      }

  makes_some : (x p : P) (o : Option P) → t.keep x ≡ Some p → t.shed p ≡ o → t.maps.within p x ≡ true → Fits t.maps p o → Makes t set x (entries Outside (t.maps.strips x p) ++ (entries Inside (without t p o) ++ entries Undecided (left_undecided t o))) (put_back t o)
  makes_some x p o e f w g =
      record {
        shares = λ n. omega (arith, three_times (t.maps.strips x p) (without t p o) (left_undecided t o) t.maps n, l.stripped x p w n, times_cons t.maps n p (t.maps.strips x p), without_shares t l p o g n);
        records_within =
            subst (Within t.maps x) (sym (three_pieces (t.maps.strips x p) (without t p o) (left_undecided t o)))
            (All-append (λ q. t.maps.within q x ≡ true) (t.maps.strips x p) (without t p o ++ left_undecided t o) (l.strips_within x p w)
            (within_up t.maps l x p (without t p o ++ left_undecided t o) w
            (All-append (λ q. t.maps.within q p ≡ true) (without t p o) (left_undecided t o) (without_within t l p o g) (rests_within t l p o g).0)));
        back_within = within_up t.maps l x p (put_back t o) w (rests_within t l p o g).1;
        true_of =
            All-append (λ c. Says t set c.class c.piece) (entries Outside (t.maps.strips x p)) (entries Inside (without t p o) ++ entries Undecided (left_undecided t o))
            (says_entries Outside (t.maps.strips x p) (all_by_times t.maps (λ n. set n ≡ false) (t.maps.strips x p) (outside_strips x p e w)))
            (All-append (λ c. Says t set c.class c.piece) (entries Inside (without t p o)) (entries Undecided (left_undecided t o))
            (says_entries Inside (without t p o) (all_by_times t.maps (λ n. set n ≡ true) (without t p o) (inside_without p o f g)))
            (says_entries Undecided (left_undecided t o) (undecided_large t l set o)));
        few = omega (arith, three_length (t.maps.strips x p) (without t p o) (left_undecided t o), l.strips_few x p w, without_few t l p o g);
        lower = λ xs h. without_lower t l p o g xs (omega (arith, h.0, l.height_within p x w)) h.1;
        less = back_less x p o e f w g;
      }

  -- what the definition of a step says it makes
  makes_at : (x : P) (o : Option P) → t.keep x ≡ o → Fits t.maps x o → Makes t set x (entries_at t x o) (back_at t o)
  makes_at x None e w = makes_none x e
  makes_at x (Some p) e w = makes_some x p (t.shed p) e refl w (s.shed_fits p)

  pub step_makes : (x : P) → Makes t set x (step_entries t x) (step_back t x)
  step_makes x = makes_at x (t.keep x) refl (s.keep_fits x)
