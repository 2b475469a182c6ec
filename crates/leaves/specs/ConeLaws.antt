-- A cone keeps the laws of a contractor.
use Rattle.std.specs.Prelude.{◌≡◌, ℕ, ◌≤◌, min, true, not, ◌&&◌, ◌||◌, ◌⊎◌, ℤ, pos, ◌-ℤ◌, ◌*ℤ◌, ◌≤ℤ◌, int_le, int_lt}
use Rattle.std.proofs.Common.{arith, inl, inr, sym, ap, ap₂, ◌∙◌}
use Rattle.std.specs.Int.{int_max, int_min}
use Rattle.std.proofs.lemmas.Int.{ints, clamps, by_lt_z}
use Rattle.scan.specs.declared.stretch.Stretch.{Stretch}
use Rattle.contractor.specs.Meaning.{Sound, meaning}
use Rattle.plane.specs.Boxes.{plane}
use Rattle.leaves.specs.Cones.{offset, in_cone, cone_set, ahead, behind, keeps, sheds, most, fewest, cone_kept, cone_dropped}
use Rattle.leaves.specs.Extremes.{least_signed, greatest_signed}
use Rattle.leaves.specs.Judged.{Test}
use Rattle.leaves.specs.declared.cone.Cone.{Cone}
use Rattle.leaves.specs.Judging.{Sees, judged_sound}
use Rattle.leaves.specs.Products.{between_ends}
use Rattle.leaves.specs.SignedExtremes.{least_bound, greatest_bound, least_is, greatest_is, least_one, greatest_one}

-- p and q the product sums at a point, and m and n their greatest, or their least
module _ (p q m n : ℤ) where
  keep_live : p ≤ℤ m → q ≤ℤ n → (int_le (pos 0) p && int_le (pos 0) q) ≡ true → (int_le (pos 0) m && int_le (pos 0) n) ≡ true
  keep_live a b e = grind (arith, ints)

  keep_turned : p ≤ℤ m → q ≤ℤ n → (int_le (pos 0) q && int_le (pos 0) p) ≡ true → (int_le (pos 0) m && int_le (pos 0) n) ≡ true
  keep_turned a b e = grind (arith, ints)

  shed_live : m ≤ℤ p → n ≤ℤ q → not (int_le (pos 0) p && int_le (pos 0) q) ≡ true → (int_lt m (pos 0) || int_lt n (pos 0)) ≡ true
  shed_live a b e = grind (arith, ints)

  shed_turned : m ≤ℤ p → n ≤ℤ q → not (int_le (pos 0) q && int_le (pos 0) p) ≡ true → (int_lt m (pos 0) || int_lt n (pos 0)) ≡ true
  shed_turned a b e = grind (arith, ints)

shed_alone : (p q : ℤ) → (int_lt p (pos 0) || int_lt q (pos 0)) ≡ not (int_le (pos 0) p && int_le (pos 0) q)
shed_alone p q = grind (arith, ints)

module _ (c : Cone) where
  abbrev columns_keep : Test
  columns_keep = keeps c.u.x c.u.y c.v.y c.v.x c.beacon.x c.beacon.y

  abbrev rows_keep : Test
  rows_keep = keeps c.v.y c.v.x c.u.x c.u.y c.beacon.y c.beacon.x

  abbrev columns_shed : Test
  columns_shed = sheds c.u.x c.u.y c.v.y c.v.x c.beacon.x c.beacon.y

  abbrev rows_shed : Test
  rows_shed = sheds c.v.y c.v.x c.u.x c.u.y c.beacon.y c.beacon.x

  keep_sees : Sees (in_cone c) columns_keep rows_keep
  keep_sees = record {
    by_rows = λ s x y low high e.
        keep_live _ _ _ _ (greatest_bound (ahead c.u.x c.u.y c.beacon.x c.beacon.y x) s y low high) (greatest_bound (behind c.v.y c.v.x c.beacon.x c.beacon.y x) s y low high) e;
    by_columns = λ s x y low high e.
        keep_turned _ _ _ _ (greatest_bound (ahead c.v.y c.v.x c.beacon.y c.beacon.x y) s x low high) (greatest_bound (behind c.u.x c.u.y c.beacon.y c.beacon.x y) s x low high) e;
    alone = λ x y. ap₂ (λ m n. int_le (pos 0) m && int_le (pos 0) n) (greatest_one (ahead c.u.x c.u.y c.beacon.x c.beacon.y x) y) (greatest_one (behind c.v.y c.v.x c.beacon.x c.beacon.y x) y);
  }

  shed_sees : Sees (λ x y. not (in_cone c x y)) columns_shed rows_shed
  shed_sees = record {
    by_rows = λ s x y low high e.
        shed_live _ _ _ _ (least_bound (ahead c.u.x c.u.y c.beacon.x c.beacon.y x) s y low high) (least_bound (behind c.v.y c.v.x c.beacon.x c.beacon.y x) s y low high) e;
    by_columns = λ s x y low high e.
        shed_turned _ _ _ _ (least_bound (ahead c.v.y c.v.x c.beacon.y c.beacon.x y) s x low high) (least_bound (behind c.u.x c.u.y c.beacon.y c.beacon.x y) s x low high) e;
    alone = λ x y.
        ap₂ (λ m n. int_lt m (pos 0) || int_lt n (pos 0)) (least_one (ahead c.u.x c.u.y c.beacon.x c.beacon.y x) y) (least_one (behind c.v.y c.v.x c.beacon.x c.beacon.y x) y)
        ∙ shed_alone (ahead c.u.x c.u.y c.beacon.x c.beacon.y x y) (behind c.v.y c.v.x c.beacon.x c.beacon.y x y);
  }

  pub cone_sound : Sound plane (meaning (cone_set c) (cone_kept c) (cone_dropped c))
  cone_sound = judged_sound (in_cone c) columns_keep rows_keep columns_shed rows_shed keep_sees shed_sees

-- the greatest and the least of products that end in l and h, with k taken off, or taken off k
module _ (l h k : ℤ) where
  off_most : (a : ℤ) → a ≤ℤ int_max l h → (a -ℤ k) ≤ℤ (int_max l h -ℤ k)
  off_most a b = omega (arith, ints)

  off_least : (a : ℤ) → int_min l h ≤ℤ a → (int_min l h -ℤ k) ≤ℤ (a -ℤ k)
  off_least a b = omega (arith, ints)

  from_most : (a : ℤ) → int_min l h ≤ℤ a → (k -ℤ a) ≤ℤ (k -ℤ int_min l h)
  from_most a b = omega (arith, ints)

  from_least : (a : ℤ) → a ≤ℤ int_max l h → (k -ℤ int_max l h) ≤ℤ (k -ℤ a)
  from_least a b = omega (arith, ints)

  off_most_end : ((int_max l h -ℤ k) ≤ℤ (l -ℤ k)) ⊎ ((int_max l h -ℤ k) ≤ℤ (h -ℤ k))
  off_most_end = by_lt_z l h (λ e. inr (omega (arith, ints, clamps))) (λ e. inl (omega (arith, ints, clamps)))

  off_least_end : ((l -ℤ k) ≤ℤ (int_min l h -ℤ k)) ⊎ ((h -ℤ k) ≤ℤ (int_min l h -ℤ k))
  off_least_end = by_lt_z l h (λ e. inl (omega (arith, ints, clamps))) (λ e. inr (omega (arith, ints, clamps)))

  from_most_end : ((k -ℤ int_min l h) ≤ℤ (k -ℤ l)) ⊎ ((k -ℤ int_min l h) ≤ℤ (k -ℤ h))
  from_most_end = by_lt_z l h (λ e. inl (omega (arith, ints, clamps))) (λ e. inr (omega (arith, ints, clamps)))

  from_least_end : ((k -ℤ l) ≤ℤ (k -ℤ int_max l h)) ⊎ ((k -ℤ h) ≤ℤ (k -ℤ int_max l h))
  from_least_end = by_lt_z l h (λ e. inr (omega (arith, ints, clamps))) (λ e. inl (omega (arith, ints, clamps)))

-- the product sums' extremes over a stretch are those of the ends
module _ (p q along across : ℤ) (s : Stretch) (some : s.low ≤ s.high) (i : ℕ) where
  ahead_greatest : (most p across s -ℤ q *ℤ offset along i) ≡ greatest_signed (ahead p q along across i) s
  ahead_greatest =
      greatest_is (ahead p q along across i) s (most p across s -ℤ q *ℤ offset along i) some
      (λ j low high. off_most (p *ℤ offset across s.low) (p *ℤ offset across s.high) (q *ℤ offset along i) (p *ℤ offset across j) (between_ends p across s j low high).1)
      (off_most_end (p *ℤ offset across s.low) (p *ℤ offset across s.high) (q *ℤ offset along i))

  ahead_least : (fewest p across s -ℤ q *ℤ offset along i) ≡ least_signed (ahead p q along across i) s
  ahead_least =
      least_is (ahead p q along across i) s (fewest p across s -ℤ q *ℤ offset along i) some
      (λ j low high. off_least (p *ℤ offset across s.low) (p *ℤ offset across s.high) (q *ℤ offset along i) (p *ℤ offset across j) (between_ends p across s j low high).0)
      (off_least_end (p *ℤ offset across s.low) (p *ℤ offset across s.high) (q *ℤ offset along i))

  behind_greatest : (q *ℤ offset along i -ℤ fewest p across s) ≡ greatest_signed (behind q p along across i) s
  behind_greatest =
      greatest_is (behind q p along across i) s (q *ℤ offset along i -ℤ fewest p across s) some
      (λ j low high. from_most (p *ℤ offset across s.low) (p *ℤ offset across s.high) (q *ℤ offset along i) (p *ℤ offset across j) (between_ends p across s j low high).0)
      (from_most_end (p *ℤ offset across s.low) (p *ℤ offset across s.high) (q *ℤ offset along i))

  behind_least : (q *ℤ offset along i -ℤ most p across s) ≡ least_signed (behind q p along across i) s
  behind_least =
      least_is (behind q p along across i) s (q *ℤ offset along i -ℤ most p across s) some
      (λ j low high. from_least (p *ℤ offset across s.low) (p *ℤ offset across s.high) (q *ℤ offset along i) (p *ℤ offset across j) (between_ends p across s j low high).1)
      (from_least_end (p *ℤ offset across s.low) (p *ℤ offset across s.high) (q *ℤ offset along i))

-- the test of a column by the extremes over the rows is the rule for keep on the plane; with the other extremes, its
-- opposite is that for shed
module _ (p q r v along across : ℤ) (by : Stretch) (some : by.low ≤ by.high) (first second : ℤ) (i : ℕ) (h : i ≤ 4095) where
  at : offset along (min i 4095) ≡ offset along i
  at = ap (λ (k : ℕ). offset along k) (omega arith)

  ahead_is : (m : ℤ) → first ≡ m → (first -ℤ q *ℤ offset along (min i 4095)) ≡ (m -ℤ q *ℤ offset along i)
  ahead_is m e = ap₂ (λ a b. a -ℤ q *ℤ b) e at

  behind_is : (m : ℤ) → second ≡ m → (r *ℤ offset along (min i 4095) -ℤ second) ≡ (r *ℤ offset along i -ℤ m)
  behind_is m e = ap₂ (λ a b. r *ℤ a -ℤ b) at e

  pub keeps_same : first ≡ most p across by → second ≡ fewest v across by → (int_le (pos 0) (first -ℤ q *ℤ offset along (min i 4095)) && int_le (pos 0) (r *ℤ offset along (min i 4095) -ℤ second)) ≡ keeps p q r v along across by i
  keeps_same e f =
      ap₂ (λ a b. int_le (pos 0) a && int_le (pos 0) b) (ahead_is (most p across by) e ∙ ahead_greatest p q along across by some i)
      (behind_is (fewest v across by) f ∙ behind_greatest v r along across by some i)

  pub sheds_same : first ≡ fewest p across by → second ≡ most v across by → not (int_le (pos 0) (first -ℤ q *ℤ offset along (min i 4095)) && int_le (pos 0) (r *ℤ offset along (min i 4095) -ℤ second)) ≡ sheds p q r v along across by i
  sheds_same e f =
      ap₂ (λ a b. not (int_le (pos 0) a && int_le (pos 0) b)) (ahead_is (fewest p across by) e ∙ ahead_least p q along across by some i)
      (behind_is (most v across by) f ∙ behind_least v r along across by some i)
      ∙ sym (shed_alone (least_signed (ahead p q along across i) by) (least_signed (behind r v along across i) by))
