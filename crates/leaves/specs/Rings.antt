-- A ring: the points whose distance from a beacon is from a to b. Distances are compared by their squares.
use Rattle.std.specs.Prelude.{◌≡◌, ℕ, ◌+◌, ◌*◌, ◌/◌, ◌%◌, Bool, ◌&&◌, ◌||◌, ◌⊎◌, ℤ, pos, negsuc, ◌-ℤ◌, ◌≤ℤ◌, Option, Result, MatchResult, nat_le, nat_lt, unsigned_abs}
use Rattle.domain.specs.Refusals.{code}
use Rattle.domain.specs.declared.refusal.Refusal.{Refusal}
use Rattle.scan.specs.declared.stretch.Stretch.{Stretch}
use Rattle.plane.specs.declared.plane_box.PlaneBox.{PlaneBox}
use Rattle.leaves.specs.Extremes.{least_over, greatest_over}
use Rattle.leaves.specs.Judged.{Test, judged}
use Rattle.leaves.specs.declared.ring.Ring.{Ring}

abbrev pub square : ℕ → ℕ
square n = n * n

-- how far column or row i lies from a beacon's: |i − b|
unfoldable pub distance : ℤ → ℕ → ℕ
distance b i = unsigned_abs (pos i -ℤ b)

-- the least and the greatest of that over a stretch
abbrev pub nearest : ℤ → Stretch → ℕ
nearest b s = least_over (distance b) s

abbrev pub farthest : ℤ → Stretch → ℕ
farthest b s = greatest_over (distance b) s

-- column x and row y: a² ≤ dx² + dy² ≤ b²
abbrev pub in_ring : Ring → ℕ → ℕ → Bool
in_ring r x y =
    nat_le (square r.inner) (square (distance r.beacon.x x) + square (distance r.beacon.y y))
    && nat_le (square (distance r.beacon.x x) + square (distance r.beacon.y y)) (square r.outer)

abbrev pub ring_set : Ring → ℕ → Bool
ring_set r n = in_ring r (n % 4096) (n / 4096)

-- with the one beacon's number along and the other across: index i is live for keep when d² + m² ≤ b² and a² ≤ d² + M²
abbrev pub keeps : (a b : ℕ) → (along across : ℤ) → Test
keeps a b along across s i =
    nat_le (square (distance along i) + square (nearest across s)) (square b)
    && nat_le (square a) (square (distance along i) + square (farthest across s))

-- and for shed when d² + m² < a² or b² < d² + M²
abbrev pub sheds : (a b : ℕ) → (along across : ℤ) → Test
sheds a b along across s i =
    nat_lt (square (distance along i) + square (nearest across s)) (square a)
    || nat_lt (square b) (square (distance along i) + square (farthest across s))

abbrev pub ring_kept : Ring → PlaneBox → Option PlaneBox
ring_kept r x = judged (keeps r.inner r.outer r.beacon.x r.beacon.y) (keeps r.inner r.outer r.beacon.y r.beacon.x) x

abbrev pub ring_dropped : Ring → PlaneBox → Option PlaneBox
ring_dropped r x = judged (sheds r.inner r.outer r.beacon.x r.beacon.y) (sheds r.inner r.outer r.beacon.y r.beacon.x) x

-- both numbers are from −m − 1 to m
abbrev pub AreWithin : ℕ → ℤ → ℤ → Type 0
AreWithin m x y = (negsuc m ≤ℤ x) × (x ≤ℤ pos m) × (negsuc m ≤ℤ y) × (y ≤ℤ pos m)

-- the numbers that make a ring: a beacon in its range, and 0 ≤ a ≤ b ≤ 32,767
abbrev pub IsBeacon : ℤ → ℤ → Type 0
IsBeacon bx by = AreWithin 16383 bx by

abbrev pub AreRadii : ℤ → ℤ → Type 0
AreRadii a b = (pos 0 ≤ℤ a) × (a ≤ℤ b) × (b ≤ℤ pos 32767)

-- a ring has these numbers
abbrev pub HasNumbers : ℤ → ℤ → ℤ → ℤ → Ring → Type 0
HasNumbers bx by a b r = (r.beacon.x ≡ bx) × (r.beacon.y ≡ by) × (pos r.inner ≡ a) × (pos r.outer ≡ b)

-- refused with 3 just when the beacon is beyond its range, with 4 just when it is not and the radii are wrong
abbrev pub RingMade : ℤ → ℤ → ℤ → ℤ → Result Ring Refusal → Type 0
RingMade bx by a b r =
    MatchResult r (λ ring. IsBeacon bx by × AreRadii a b × HasNumbers bx by a b ring)
    (λ e. ((IsBeacon bx by → ⊥) × (code e ≡ 3)) ⊎ (IsBeacon bx by × (AreRadii a b → ⊥) × (code e ≡ 4)))
