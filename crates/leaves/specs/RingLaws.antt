-- A ring keeps the laws of a contractor.
use Rattle.std.specs.Prelude.{◌≡◌, ℕ, ◌+◌, ◌≤◌, min, true, not, ◌&&◌, ◌||◌, ℤ, nat_le, nat_lt, refl}
use Rattle.std.proofs.Common.{arith, ap, ap₂, ◌∙◌}
use Rattle.std.proofs.lemmas.Bool.Decides.{nat_tests}
use Rattle.scan.specs.declared.stretch.Stretch.{Stretch}
use Rattle.contractor.specs.Meaning.{Sound, meaning}
use Rattle.plane.specs.Boxes.{plane}
use Rattle.leaves.specs.Rings.{square, distance, nearest, farthest, in_ring, ring_set, keeps, sheds, ring_kept, ring_dropped}
use Rattle.leaves.specs.declared.ring.Ring.{Ring}
use Rattle.leaves.specs.Distances.{square_le}
use Rattle.leaves.specs.ExtremeLaws.{least_bound, greatest_bound, least_one, greatest_one}
use Rattle.leaves.specs.Judging.{Sees, judged_sound}

-- squares a and b of the radii, d of the distance along, o across, and m, M the squares of the least and the greatest across
module _ (a b d o m M t : ℕ) (sum : t ≡ d + o) where
  keep_live : m ≤ o → o ≤ M → (nat_le a t && nat_le t b) ≡ true → (nat_le (d + m) b && nat_le a (d + M)) ≡ true
  keep_live low high e = grind (arith, nat_tests)

  shed_live : m ≤ o → o ≤ M → not (nat_le a t && nat_le t b) ≡ true → (nat_lt (d + m) a || nat_lt b (d + M)) ≡ true
  shed_live low high e = grind (arith, nat_tests)

  keep_alone : m ≡ o → M ≡ o → (nat_le (d + m) b && nat_le a (d + M)) ≡ (nat_le a t && nat_le t b)
  keep_alone low high = grind (arith, nat_tests)

  shed_alone : m ≡ o → M ≡ o → (nat_lt (d + m) a || nat_lt b (d + M)) ≡ not (nat_le a t && nat_le t b)
  shed_alone low high = grind (arith, nat_tests)

not_within : (a b m n : ℕ) → not (nat_le n b && nat_le a m) ≡ (nat_lt m a || nat_lt b n)
not_within a b m n = grind (arith, nat_tests)

module _ (c : ℤ) (s : Stretch) (i : ℕ) (low : s.low ≤ i) (high : i ≤ s.high) where
  near : square (nearest c s) ≤ square (distance c i)
  near = square_le (nearest c s) (distance c i) (least_bound (distance c) s i low high)

  far : square (distance c i) ≤ square (farthest c s)
  far = square_le (distance c i) (farthest c s) (greatest_bound (distance c) s i low high)

module _ (r : Ring) where
  keep_sees : Sees (in_ring r) (keeps r.inner r.outer r.beacon.x r.beacon.y) (keeps r.inner r.outer r.beacon.y r.beacon.x)
  keep_sees = record {
    by_rows = λ s x y low high e. keep_live _ _ _ (square (distance r.beacon.y y)) _ _ (square (distance r.beacon.x x) + square (distance r.beacon.y y)) refl (near r.beacon.y s y low high) (far r.beacon.y s y low high) e;
    by_columns = λ s x y low high e. keep_live _ _ _ (square (distance r.beacon.x x)) _ _ (square (distance r.beacon.x x) + square (distance r.beacon.y y)) (omega arith) (near r.beacon.x s x low high) (far r.beacon.x s x low high) e;
    alone = λ x y. keep_alone _ _ _ (square (distance r.beacon.y y)) _ _ (square (distance r.beacon.x x) + square (distance r.beacon.y y)) refl (ap square (least_one (distance r.beacon.y) y)) (ap square (greatest_one (distance r.beacon.y) y));
  }

  shed_sees : Sees (λ x y. not (in_ring r x y)) (sheds r.inner r.outer r.beacon.x r.beacon.y) (sheds r.inner r.outer r.beacon.y r.beacon.x)
  shed_sees = record {
    by_rows = λ s x y low high e. shed_live _ _ _ (square (distance r.beacon.y y)) _ _ (square (distance r.beacon.x x) + square (distance r.beacon.y y)) refl (near r.beacon.y s y low high) (far r.beacon.y s y low high) e;
    by_columns = λ s x y low high e. shed_live _ _ _ (square (distance r.beacon.x x)) _ _ (square (distance r.beacon.x x) + square (distance r.beacon.y y)) (omega arith) (near r.beacon.x s x low high) (far r.beacon.x s x low high) e;
    alone = λ x y. shed_alone _ _ _ (square (distance r.beacon.y y)) _ _ (square (distance r.beacon.x x) + square (distance r.beacon.y y)) refl (ap square (least_one (distance r.beacon.y) y)) (ap square (greatest_one (distance r.beacon.y) y));
  }

  pub ring_sound : Sound plane (meaning (ring_set r) (ring_kept r) (ring_dropped r))
  ring_sound =
      judged_sound (in_ring r) (keeps r.inner r.outer r.beacon.x r.beacon.y) (keeps r.inner r.outer r.beacon.y r.beacon.x)
      (sheds r.inner r.outer r.beacon.x r.beacon.y) (sheds r.inner r.outer r.beacon.y r.beacon.x) keep_sees shed_sees

-- the test of a column by the least and the greatest distance across is the rule for keep on the plane; with the two
-- changed about, its opposite is that for shed
module _ (a b : ℕ) (along across : ℤ) (by : Stretch) (near far : ℕ) (i : ℕ) (h : i ≤ 4095) where
  at : square (distance along (min i 4095)) ≡ square (distance along i)
  at = ap (λ (k : ℕ). square (distance along k)) (omega arith)

  pub keeps_same : near ≡ square (nearest across by) → far ≡ square (farthest across by) → (nat_le (square (distance along (min i 4095)) + near) (square b) && nat_le (square a) (square (distance along (min i 4095)) + far)) ≡ keeps a b along across by i
  keeps_same e f = ap₂ ◌&&◌ (ap (λ (n : ℕ). nat_le n (square b)) (ap₂ ◌+◌ at e)) (ap (λ (n : ℕ). nat_le (square a) n) (ap₂ ◌+◌ at f))

  pub sheds_same : near ≡ square (farthest across by) → far ≡ square (nearest across by) → not (nat_le (square (distance along (min i 4095)) + near) (square b) && nat_le (square a) (square (distance along (min i 4095)) + far)) ≡ sheds a b along across by i
  sheds_same e f =
      ap₂ (λ (m n : ℕ). not (nat_le m (square b) && nat_le (square a) n)) (ap₂ ◌+◌ at e) (ap₂ ◌+◌ at f)
      ∙ not_within (square a) (square b) (square (distance along i) + square (nearest across by)) (square (distance along i) + square (farthest across by))
