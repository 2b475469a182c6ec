-- The least and the greatest signed value over a stretch: a bound that is reached.
use Rattle.std.specs.Prelude.{◌≡◌, ℕ, zero, suc, ◌+◌, ◌-◌, ◌≤◌, ◌⊎◌, ℤ, ◌≤ℤ◌}
use native.Mathlib.Omega.{arith}
use Rattle.std.proofs.Math.Logic.{inl, inr}
use Rattle.std.proofs.Common.{sym}
use Rattle.std.proofs.Math.Path.{subst}
use Rattle.std.specs.Int.Signed.{≤ℤ_refl}
use Rattle.std.specs.Int.{int_max, int_min}
use Rattle.std.proofs.lemmas.Int.{ints, clamps}
use Rattle.std.proofs.lemmas.Bool.{cases_eq}
use Rattle.scan.specs.declared.stretch.Stretch.{Stretch}
use Rattle.leaves.specs.Extremes.{least_z, greatest_z, least_signed, greatest_signed}

module _ (f : ℕ → ℤ) where
  least_below : (w a i : ℕ) → a ≤ i → i ≤ a + w → least_z f a w ≤ℤ f i
  unfolding least_z
  least_below zero a i low high = let e : a ≡ i = omega arith in subst (λ (k : ℕ). f a ≤ℤ f k) e (≤ℤ_refl (f a))
  least_below (suc w) a i low high =
      elim (cases_eq a i) [
        | inl e ↦ subst (λ (k : ℕ). int_min (f a) (least_z f (suc a) w) ≤ℤ f k) e (omega (arith, ints, clamps))
        | inr n ↦ omega (arith, ints, clamps, least_below w (suc a) i (omega arith) (omega arith))
      ]

  greatest_above : (w a i : ℕ) → a ≤ i → i ≤ a + w → f i ≤ℤ greatest_z f a w
  unfolding greatest_z
  greatest_above zero a i low high = let e : a ≡ i = omega arith in subst (λ (k : ℕ). f k ≤ℤ f a) e (≤ℤ_refl (f a))
  greatest_above (suc w) a i low high =
      elim (cases_eq a i) [
        | inl e ↦ subst (λ (k : ℕ). f k ≤ℤ int_max (f a) (greatest_z f (suc a) w)) e (omega (arith, ints, clamps))
        | inr n ↦ omega (arith, ints, clamps, greatest_above w (suc a) i (omega arith) (omega arith))
      ]

  -- a bound of all values bounds the least, or the greatest
  least_above : (w a : ℕ) (m : ℤ) → ((i : ℕ) → a ≤ i → i ≤ a + w → m ≤ℤ f i) → m ≤ℤ least_z f a w
  unfolding least_z
  least_above zero a m b = b a (omega arith) (omega arith)
  least_above (suc w) a m b =
      let h = b a (omega arith) (omega arith) in
      let k = least_above w (suc a) m (λ i low high. b i (omega arith) (omega arith)) in
      omega (arith, ints, clamps)

  greatest_below : (w a : ℕ) (m : ℤ) → ((i : ℕ) → a ≤ i → i ≤ a + w → f i ≤ℤ m) → greatest_z f a w ≤ℤ m
  unfolding greatest_z
  greatest_below zero a m b = b a (omega arith) (omega arith)
  greatest_below (suc w) a m b =
      let h = b a (omega arith) (omega arith) in
      let k = greatest_below w (suc a) m (λ i low high. b i (omega arith) (omega arith)) in
      omega (arith, ints, clamps)

  pub least_bound : (s : Stretch) (i : ℕ) → s.low ≤ i → i ≤ s.high → least_signed f s ≤ℤ f i
  least_bound s i low high = least_below (s.high - s.low) s.low i low (omega arith)

  pub greatest_bound : (s : Stretch) (i : ℕ) → s.low ≤ i → i ≤ s.high → f i ≤ℤ greatest_signed f s
  greatest_bound s i low high = greatest_above (s.high - s.low) s.low i low (omega arith)

  -- a bound that is reached at an end is the least, or the greatest
  pub least_is : (s : Stretch) (m : ℤ) → s.low ≤ s.high → ((i : ℕ) → s.low ≤ i → i ≤ s.high → m ≤ℤ f i) → (f s.low ≤ℤ m) ⊎ (f s.high ≤ℤ m) → m ≡ least_signed f s
  least_is s m some bound reached =
      let b = least_above (s.high - s.low) s.low m (λ i low high. bound i low (omega arith)) in
      let l = least_bound s s.low (omega arith) some in
      let h = least_bound s s.high some (omega arith) in
      elim reached [ inl e ↦ omega (arith, ints, e) | inr e ↦ omega (arith, ints, e) ]

  pub greatest_is : (s : Stretch) (m : ℤ) → s.low ≤ s.high → ((i : ℕ) → s.low ≤ i → i ≤ s.high → f i ≤ℤ m) → (m ≤ℤ f s.low) ⊎ (m ≤ℤ f s.high) → m ≡ greatest_signed f s
  greatest_is s m some bound reached =
      let b = greatest_below (s.high - s.low) s.low m (λ i low high. bound i low (omega arith)) in
      let l = greatest_bound s s.low (omega arith) some in
      let h = greatest_bound s s.high some (omega arith) in
      elim reached [ inl e ↦ omega (arith, ints, e) | inr e ↦ omega (arith, ints, e) ]

  -- over one index
  pub least_one : (i : ℕ) → least_signed f (record { low = i; high = i }) ≡ f i
  least_one i = sym (least_is (record { low = i; high = i }) (f i) (omega arith) (λ k low high. let e : i ≡ k = omega arith in subst (λ (j : ℕ). f i ≤ℤ f j) e (≤ℤ_refl (f i))) (inl (≤ℤ_refl (f i))))

  pub greatest_one : (i : ℕ) → greatest_signed f (record { low = i; high = i }) ≡ f i
  greatest_one i = sym (greatest_is (record { low = i; high = i }) (f i) (omega arith) (λ k low high. let e : i ≡ k = omega arith in subst (λ (j : ℕ). f j ≤ℤ f i) e (≤ℤ_refl (f i))) (inl (≤ℤ_refl (f i))))
