-- Depth over a list of stretches, member by member; and that its first and last index are ends of stretches.
use Rattle.std.proofs.Common.{◌≡◌, ℕ, zero, suc, ◌+◌, ◌-◌, ◌<◌, ◌≤◌, min, max, Bool, true, false, cond, ◌⊎◌, List, [], ◌∷◌, map, filter, Some, None, Option, MatchOption, sum_by, sym, refl, ap, ◌∙◌, subst, inl, inr, arith}
use Rattle.std.specs.List.{AllByRecursion, fold, reduce}
use Rattle.std.proofs.lemmas.List.Sums.{sum_by-cons}
use Rattle.std.proofs.lemmas.Bool.{leb-true, le-leb, cases_eq, cases_lt, both_ways}
use Rattle.std.proofs.lemmas.Bool.Decides.{nat_tests}
use Rattle.scan.specs.Live.{run}
use Rattle.scan.proofs.Runs.{run_unique}
use Rattle.scan.specs.declared.stretch.Stretch.{Stretch}
use Rattle.scan.specs.Depth.{covers, depth, deep, Below, Earliest, Latest}

-- a stretch that does not begin at an index holds the one before too, and so on
not_begun : (s : Stretch) (i : ℕ) → (s.low ≡ suc i → ⊥) → cond (covers s (suc i)) 1 0 ≤ cond (covers s i) 1 0
not_begun s i n = grind (arith, nat_tests)

not_at_0 : (s : Stretch) → (s.low ≡ 0 → ⊥) → cond (covers s 0) 1 0 ≤ 0
not_at_0 s n = grind (arith, nat_tests)

not_ended : (s : Stretch) (i : ℕ) → (s.high ≡ i → ⊥) → cond (covers s i) 1 0 ≤ cond (covers s (suc i)) 1 0
not_ended s i n = grind (arith, nat_tests)

past_end : (s : Stretch) (i : ℕ) → s.high < i → cond (covers s i) 1 0 ≤ 0
past_end s i h = grind (arith, nat_tests)

-- the best of the numbers of a list that pass a test, where R says that one is as good as another
module _ (t : ℕ → Bool) (better : ℕ → ℕ → ℕ) (R : ℕ → ℕ → Type 0) (first : (m e : ℕ) → R (better m e) m) (second : (m e : ℕ) → R (better m e) e) (itself : (m : ℕ) → R m m) (on : (k m e : ℕ) → R k m → R m e → R k e) (one : (P : ℕ → Type 0) (m e : ℕ) → P m → P e → P (better m e)) where
  -- m is one that passes, and as good as any of them that does
  abbrev Best : ℕ → List ℕ → Type 0
  Best m es = (t m ≡ true) × AllByRecursion (λ i. t i ≡ true → R m i) es

  -- what a fold over those that pass makes of m
  abbrev Folded : ℕ → ℕ → List ℕ → Type 0
  Folded r m es = R r m × Best r es

  folded_one : (es : List ℕ) (m e : ℕ) (b : Bool) → t e ≡ b → t m ≡ true → ((k : ℕ) → t k ≡ true → Folded (fold better k (filter t es)) k es) → Folded (fold better m (cond b (e ∷ filter t es) (filter t es))) m (e ∷ es)
  folded_one es m e true z y f =
      let r = f (better m e) (one (λ k. t k ≡ true) m e y z) in
      let k = fold better (better m e) (filter t es) in
      (on k (better m e) m r.0 (first m e), (r.1.0, (λ _. on k (better m e) e r.0 (second m e), r.1.1)))
  folded_one es m e false z y f = let r = f m y in (r.0, (r.1.0, (λ u. absurd (both_ways (t e) z u), r.1.1)))

  folded : (es : List ℕ) (m : ℕ) → t m ≡ true → Folded (fold better m (filter t es)) m es
  folded [] m y = (itself m, (y, tt))
  folded (e ∷ es) m y = folded_one es m e (t e) refl y (folded es)

  abbrev Found : List ℕ → Option ℕ → Type 0
  Found es r = MatchOption r (AllByRecursion (λ i. t i ≡ false) es) (λ m. Best m es)

  found_later : (e : ℕ) (es : List ℕ) (r : Option ℕ) → t e ≡ false → Found es r → Found (e ∷ es) r
  found_later e es None z f = (z, f)
  found_later e es (Some m) z f = (f.0, (λ u. absurd (both_ways (t e) z u), f.1))

  found_one : (e : ℕ) (es : List ℕ) (b : Bool) → t e ≡ b → Found es (reduce better (filter t es)) → Found (e ∷ es) (reduce better (cond b (e ∷ filter t es) (filter t es)))
  found_one e es true z f = let r = folded es e z in (r.1.0, (λ _. r.0, r.1.1))
  found_one e es false z f = found_later e es (reduce better (filter t es)) z f

  best_found : (es : List ℕ) → Found es (reduce better (filter t es))
  best_found [] = tt
  best_found (e ∷ es) = found_one e es (t e) refl (best_found es)

either_min : (P : ℕ → Type 0) (m e : ℕ) → P m → P e → P (min m e)
either_min P m e f g = elim (cases_lt m e) [ inl h ↦ subst P (omega arith) f | inr h ↦ subst P (omega arith) g ]

either_max : (P : ℕ → Type 0) (m e : ℕ) → P m → P e → P (max m e)
either_max P m e f g = elim (cases_lt m e) [ inl h ↦ subst P (omega arith) g | inr h ↦ subst P (omega arith) f ]

pub earliest_found : (t : ℕ → Bool) (es : List ℕ) (r : Option ℕ) → r ≡ reduce min (filter t es) → Earliest t es r
earliest_found t es r e =
    subst (Earliest t es) (sym e) (best_found t min (λ m i. m ≤ i) (λ m e. omega arith) (λ m e. omega arith) (λ m. omega arith) (λ k m e f g. omega arith) either_min es)

pub latest_found : (t : ℕ → Bool) (es : List ℕ) (r : Option ℕ) → r ≡ reduce max (filter t es) → Latest t es r
latest_found t es r e =
    subst (Latest t es) (sym e) (best_found t max (λ m i. i ≤ m) (λ m e. omega arith) (λ m e. omega arith) (λ m. omega arith) (λ k m e f g. omega arith) either_max es)

-- past all ends there is no depth
past_ends : (ss : List Stretch) (i b : ℕ) → Below b ss → b ≤ i → depth ss i ≡ 0
past_ends [] i b l h = refl
past_ends (s ∷ ss) i b l h =
    omega (arith, past_ends ss i b l.1 h, past_end s i (omega (arith, l.0)), sum_by-cons (λ r. cond (covers r i) 1 0) s ss)

pub deep_below : (k : ℕ) (ss : List Stretch) (i b : ℕ) → Below b ss → 0 < k → deep k ss i ≡ true → i < b
deep_below k ss i b l h d =
    elim (cases_lt i b) [ inl u ↦ u | inr u ↦ absurd (omega (arith, past_ends ss i b l u, leb-true k (depth ss i) d)) ]

not_live : (t : Bool) → (t ≡ true → ⊥) → t ≡ false
not_live true n = absurd (n refl)
not_live false n = refl

-- depth rises only where a stretch begins, and falls only where one ends
module _ (Q : Stretch → Type 0) where
  begins_or : (ss : List Stretch) (i : ℕ) → AllByRecursion Q ss → ((s : Stretch) × Q s × (s.low ≡ suc i)) ⊎ (depth ss (suc i) ≤ depth ss i)
  begins_or [] i a = inr (omega arith)
  begins_or (s ∷ ss) i a =
      elim (cases_eq s.low (suc i)) [
        | inl e ↦ inl (s, a.0, e)
        | inr n ↦ elim (begins_or ss i a.1) [
          | inl f ↦ inl f
          | inr h ↦ inr (omega (arith, h, not_begun s i n, sum_by-cons (λ r. cond (covers r (suc i)) 1 0) s ss, sum_by-cons (λ r. cond (covers r i) 1 0) s ss))
        ]
      ]

  begins_at_0 : (ss : List Stretch) → AllByRecursion Q ss → ((s : Stretch) × Q s × (s.low ≡ 0)) ⊎ (depth ss 0 ≡ 0)
  begins_at_0 [] a = inr refl
  begins_at_0 (s ∷ ss) a =
      elim (cases_eq s.low 0) [
        | inl e ↦ inl (s, a.0, e)
        | inr n ↦ elim (begins_at_0 ss a.1) [
          | inl f ↦ inl f
          | inr h ↦ inr (omega (arith, h, not_at_0 s n, sum_by-cons (λ r. cond (covers r 0) 1 0) s ss))
        ]
      ]

  ends_or : (ss : List Stretch) (i : ℕ) → AllByRecursion Q ss → ((s : Stretch) × Q s × (s.high ≡ i)) ⊎ (depth ss i ≤ depth ss (suc i))
  ends_or [] i a = inr (omega arith)
  ends_or (s ∷ ss) i a =
      elim (cases_eq s.high i) [
        | inl e ↦ inl (s, a.0, e)
        | inr n ↦ elim (ends_or ss i a.1) [
          | inl f ↦ inl f
          | inr h ↦ inr (omega (arith, h, not_ended s i n, sum_by-cons (λ r. cond (covers r (suc i)) 1 0) s ss, sum_by-cons (λ r. cond (covers r i) 1 0) s ss))
        ]
      ]

  -- a deep index has a deep beginning at or before it
  deep_begins : (k : ℕ) (ss : List Stretch) (i : ℕ) → 0 < k → AllByRecursion Q ss → deep k ss i ≡ true → (s : Stretch) × Q s × (s.low ≤ i) × (deep k ss s.low ≡ true)
  deep_begins k ss zero h a d =
      elim (begins_at_0 ss a) [
        | inl f ↦ (f.0, f.1, omega (arith, f.2), subst (λ (j : ℕ). deep k ss j ≡ true) (sym f.2) d)
        | inr e ↦ absurd (omega (arith, e, leb-true k (depth ss 0) d))
      ]
  deep_begins k ss (suc i) h a d =
      elim (begins_or ss i a) [
        | inl f ↦ (f.0, f.1, omega (arith, f.2), subst (λ (j : ℕ). deep k ss j ≡ true) (sym f.2) d)
        | inr e ↦ let r = deep_begins k ss i h a (le-leb k (depth ss i) (omega (arith, e, leb-true k (depth ss (suc i)) d))) in (r.0, r.1, omega (arith, r.2), r.3)
      ]

  -- and a deep end at or after it
  deep_ends : (w k : ℕ) (ss : List Stretch) (i b : ℕ) → i + w ≡ b → Below b ss → 0 < k → AllByRecursion Q ss → deep k ss i ≡ true → (s : Stretch) × Q s × (i ≤ s.high) × (deep k ss s.high ≡ true)
  deep_ends zero k ss i b e l h a d = absurd (omega (arith, deep_below k ss i b l h d))
  deep_ends (suc w) k ss i b e l h a d =
      elim (ends_or ss i a) [
        | inl f ↦ (f.0, f.1, omega (arith, f.2), subst (λ (j : ℕ). deep k ss j ≡ true) (sym f.2) d)
        | inr u ↦ let r = deep_ends w k ss (suc i) b (omega arith) l h a (le-leb k (depth ss (suc i)) (omega (arith, u, leb-true k (depth ss i) d))) in (r.0, r.1, omega (arith, r.2), r.3)
      ]

-- so what a search among the ends finds is the run of the deep indices
module _ (k : ℕ) (f : ℕ → Stretch) (ns : List ℕ) (b : ℕ) (some : 0 < k) (ends : Below b (map f ns)) where
  over : (P : ℕ → Type 0) (g : Stretch → ℕ) (ms : List ℕ) → AllByRecursion P (map (λ n. g (f n)) ms) → AllByRecursion (λ s. P (g s)) (map f ms)
  over P g [] a = tt
  over P g (m ∷ ms) a = (a.0, over P g ms a.1)

  none_begins : Earliest (deep k (map f ns)) (map (λ n. (f n).low) ns) None → (i : ℕ) → deep k (map f ns) i ≡ true → ⊥
  none_begins e i d =
      let r = deep_begins (λ s. deep k (map f ns) s.low ≡ false) k (map f ns) i some (over (λ j. deep k (map f ns) j ≡ false) (λ s. s.low) ns e) d in
      both_ways (deep k (map f ns) r.0.low) r.1 r.3

  none_ends : (i : ℕ) → Latest (deep k (map f ns)) (map (λ n. (f n).high) ns) None → deep k (map f ns) i ≡ true → ⊥
  none_ends i e d =
      let r = deep_ends (λ s. deep k (map f ns) s.high ≡ false) (b - i) k (map f ns) i b (omega (arith, deep_below k (map f ns) i b ends some d)) ends some (over (λ j. deep k (map f ns) j ≡ false) (λ s. s.high) ns e) d in
      both_ways (deep k (map f ns) r.0.high) r.1 r.3

  pub deep_none : Earliest (deep k (map f ns)) (map (λ n. (f n).low) ns) None → None ≡ run (deep k (map f ns)) 0 b
  deep_none e = run_unique (deep k (map f ns)) 0 b b (omega arith) None (λ i low high. not_live (deep k (map f ns) i) (none_begins e i))

  pub deep_both : (low : ℕ) → Earliest (deep k (map f ns)) (map (λ n. (f n).low) ns) (Some low) → Latest (deep k (map f ns)) (map (λ n. (f n).high) ns) None → ⊥
  deep_both low e l = none_ends low l e.0

  pub deep_some : (low high : ℕ) → Earliest (deep k (map f ns)) (map (λ n. (f n).low) ns) (Some low) → Latest (deep k (map f ns)) (map (λ n. (f n).high) ns) (Some high) → Some (record { low = low; high = high }) ≡ run (deep k (map f ns)) 0 b
  deep_some low high e l =
      run_unique (deep k (map f ns)) 0 b b (omega arith) (Some (record { low = low; high = high }))
      (omega arith, at_most low e.0, deep_below k (map f ns) high b ends some l.0, e.0, l.0, λ i _ _ d. (at_least i d, at_most i d))
    where
      at_least : (i : ℕ) → deep k (map f ns) i ≡ true → low ≤ i
      at_least i d =
          let r = deep_begins (λ s. deep k (map f ns) s.low ≡ true → low ≤ s.low) k (map f ns) i some (over (λ j. deep k (map f ns) j ≡ true → low ≤ j) (λ s. s.low) ns e.1) d in
          omega (arith, r.1 r.3, r.2)

      at_most : (i : ℕ) → deep k (map f ns) i ≡ true → i ≤ high
      at_most i d =
          let r = deep_ends (λ s. deep k (map f ns) s.high ≡ true → s.high ≤ high) (b - i) k (map f ns) i b (omega (arith, deep_below k (map f ns) i b ends some d)) ends some (over (λ j. deep k (map f ns) j ≡ true → j ≤ high) (λ s. s.high) ns l.1) d in
          omega (arith, r.1 r.3, r.2)

-- the depth, member by member, of members known by numbers
pub depth_of : (extent : ℕ → Stretch) (i : ℕ) (ns : List ℕ) → sum_by (λ n. cond (covers (extent n) i) 1 0) ns ≡ depth (map extent ns) i
depth_of extent i [] = refl
depth_of extent i (n ∷ ns) = sum_by-cons (λ m. cond (covers (extent m) i) 1 0) n ns ∙ ap (λ k. cond (covers (extent n) i) 1 0 + k) (depth_of extent i ns) ∙ sym (sum_by-cons (λ s. cond (covers s i) 1 0) (extent n) (map extent ns))
