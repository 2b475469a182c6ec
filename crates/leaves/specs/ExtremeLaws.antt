-- The least and the greatest value over a stretch: a bound that is reached.
use Rattle.std.specs.Prelude.{◌≡◌, ℕ, zero, suc, ◌+◌, ◌-◌, ◌≤◌, ◌⊎◌, refl}
use native.Mathlib.Omega.{arith}
use Rattle.std.proofs.Math.Logic.{inl, inr}
use Rattle.std.proofs.Common.{sym}
use Rattle.std.proofs.Math.Path.{ap}
use Rattle.std.proofs.lemmas.Bool.{cases_eq, cases_lt}
use Rattle.scan.specs.declared.stretch.Stretch.{Stretch}
use Rattle.leaves.specs.Extremes.{least, greatest, least_over, greatest_over}

module _ (f : ℕ → ℕ) where
  least_below : (w a i : ℕ) → a ≤ i → i ≤ a + w → least f a w ≤ f i
  unfolding least
  least_below zero a i low high = let e : a ≡ i = omega arith in omega (arith, ap f e)
  least_below (suc w) a i low high =
      elim (cases_eq a i) [
        | inl e ↦ omega (arith, ap f e)
        | inr n ↦ omega (arith, least_below w (suc a) i (omega arith) (omega arith))
      ]

  least_reached : (w a : ℕ) → (i : ℕ) × (a ≤ i) × (i ≤ a + w) × (least f a w ≡ f i)
  unfolding least
  least_reached zero a = (a, omega arith, omega arith, refl)
  least_reached (suc w) a =
      let r = least_reached w (suc a) in
      elim (cases_lt (f a) (least f (suc a) w)) [
        | inl h ↦ (a, omega arith, omega arith, omega arith)
        | inr h ↦ (r.0, omega (arith, r.1), omega (arith, r.2), omega (arith, r.3))
      ]

  greatest_above : (w a i : ℕ) → a ≤ i → i ≤ a + w → f i ≤ greatest f a w
  unfolding greatest
  greatest_above zero a i low high = let e : a ≡ i = omega arith in omega (arith, ap f e)
  greatest_above (suc w) a i low high =
      elim (cases_eq a i) [
        | inl e ↦ omega (arith, ap f e)
        | inr n ↦ omega (arith, greatest_above w (suc a) i (omega arith) (omega arith))
      ]

  greatest_reached : (w a : ℕ) → (i : ℕ) × (a ≤ i) × (i ≤ a + w) × (greatest f a w ≡ f i)
  unfolding greatest
  greatest_reached zero a = (a, omega arith, omega arith, refl)
  greatest_reached (suc w) a =
      let r = greatest_reached w (suc a) in
      elim (cases_lt (greatest f (suc a) w) (f a)) [
        | inl h ↦ (a, omega arith, omega arith, omega arith)
        | inr h ↦ (r.0, omega (arith, r.1), omega (arith, r.2), omega (arith, r.3))
      ]

  pub least_bound : (s : Stretch) (i : ℕ) → s.low ≤ i → i ≤ s.high → least_over f s ≤ f i
  least_bound s i low high = least_below (s.high - s.low) s.low i low (omega arith)

  pub greatest_bound : (s : Stretch) (i : ℕ) → s.low ≤ i → i ≤ s.high → f i ≤ greatest_over f s
  greatest_bound s i low high = greatest_above (s.high - s.low) s.low i low (omega arith)

  -- a bound that is reached is the least, or the greatest
  pub least_is : (s : Stretch) (k : ℕ) → s.low ≤ k → k ≤ s.high → ((i : ℕ) → s.low ≤ i → i ≤ s.high → f k ≤ f i) → f k ≡ least_over f s
  least_is s k low high bound =
      let r = least_reached (s.high - s.low) s.low in
      omega (arith, least_bound s k low high, r.3, bound r.0 r.1 (omega (arith, r.2)))

  pub greatest_is : (s : Stretch) (m : ℕ) → s.low ≤ s.high → ((i : ℕ) → s.low ≤ i → i ≤ s.high → f i ≤ m) → (m ≡ f s.low) ⊎ (m ≡ f s.high) → m ≡ greatest_over f s
  greatest_is s m some bound reached =
      let r = greatest_reached (s.high - s.low) s.low in
      let b = bound r.0 r.1 (omega (arith, r.2)) in
      elim reached [
        | inl e ↦ omega (arith, e, r.3, b, greatest_bound s s.low (omega arith) some)
        | inr e ↦ omega (arith, e, r.3, b, greatest_bound s s.high some (omega arith))
      ]

  -- over one index
  pub least_one : (i : ℕ) → least_over f (record { low = i; high = i }) ≡ f i
  least_one i = sym (least_is (record { low = i; high = i }) i (omega arith) (omega arith) (λ k low high. let e : i ≡ k = omega arith in omega (arith, ap f e)))

  pub greatest_one : (i : ℕ) → greatest_over f (record { low = i; high = i }) ≡ f i
  greatest_one i = sym (greatest_is (record { low = i; high = i }) (f i) (omega arith) (λ k low high. let e : i ≡ k = omega arith in omega (arith, ap f e)) (inl refl))
