-- Distances from a beacon along one side of the plane.
use Rattle.std.specs.Prelude.{◌≡◌, ℕ, ◌+◌, ◌≤◌, max, ◌⊎◌, ℤ, pos, negsuc, ◌≤ℤ◌}
use Rattle.std.proofs.Common.{arith, inl, inr}
use Rattle.std.proofs.lemmas.Nat.{mul-le}
use Rattle.std.proofs.lemmas.Int.{ints}
use Rattle.std.proofs.lemmas.Bool.{cases_lt}
use Rattle.scan.specs.declared.stretch.Stretch.{Stretch}
use Rattle.leaves.specs.Rings.{square, distance, nearest, farthest}
use Rattle.leaves.specs.ExtremeLaws.{least_is, greatest_is}

pub distance_pos : (k i : ℕ) → ((i ≤ k) × (distance (pos k) i + i ≡ k)) ⊎ ((k ≤ i) × (distance (pos k) i + k ≡ i))
unfolding distance
distance_pos k i = elim (cases_lt i k) [ inl h ↦ inl (omega arith, omega (arith, ints)) | inr h ↦ inr (h, omega (arith, ints)) ]

pub distance_neg : (k i : ℕ) → distance (negsuc k) i ≡ i + k + 1
unfolding distance
distance_neg k i = omega (arith, ints)

-- the index of a stretch that is nearest to the beacon: the beacon's own, or an end
abbrev pub Nearest : ℤ → Stretch → ℕ → Type 0
Nearest b s k = (s.low ≤ k) × (k ≤ s.high) × ((pos k ≤ℤ b) ⊎ (k ≡ s.low)) × ((b ≤ℤ pos k) ⊎ (k ≡ s.high))

pub nearest_at : (b : ℤ) (s : Stretch) (k : ℕ) → Nearest b s k → distance b k ≡ nearest b s
nearest_at (pos m) s k n =
    least_is (distance (pos m)) s k n.0 n.1 (λ i low high. omega (arith, ints, n.2, n.3, distance_pos m k, distance_pos m i))
nearest_at (negsuc m) s k n =
    least_is (distance (negsuc m)) s k n.0 n.1 (λ i low high. omega (arith, ints, n.2, n.3, distance_neg m k, distance_neg m i))

pub farthest_at : (b : ℤ) (s : Stretch) → s.low ≤ s.high → max (distance b s.low) (distance b s.high) ≡ farthest b s
farthest_at (pos m) s some =
    greatest_is (distance (pos m)) s (max (distance (pos m) s.low) (distance (pos m) s.high)) some
    (λ i low high. omega (arith, distance_pos m i, distance_pos m s.low, distance_pos m s.high))
    (elim (cases_lt (distance (pos m) s.low) (distance (pos m) s.high)) [ inl h ↦ inr (omega arith) | inr h ↦ inl (omega arith) ])
farthest_at (negsuc m) s some =
    greatest_is (distance (negsuc m)) s (max (distance (negsuc m) s.low) (distance (negsuc m) s.high)) some
    (λ i low high. omega (arith, distance_neg m i, distance_neg m s.low, distance_neg m s.high))
    (elim (cases_lt (distance (negsuc m) s.low) (distance (negsuc m) s.high)) [ inl h ↦ inr (omega arith) | inr h ↦ inl (omega arith) ])

pub square_le : (m n : ℕ) → m ≤ n → square m ≤ square n
square_le m n h = mul-le m m n n h h
