-- A box without a sub-box.
use Rattle.std.specs.Prelude.{◌≡◌, ℕ, ◌+◌, ◌-◌, ◌/◌, ◌%◌, ◌≤◌, true, cond, ◌&&◌, List, ◌∷◌, ◌++◌, length}
use Rattle.std.proofs.Common.{arith, ◌∙◌}
use Rattle.std.specs.Option.{option_to_list}
use Rattle.std.proofs.ByRecursion.{All-append}
use Rattle.std.proofs.lemmas.List.{length-append}
use Rattle.std.proofs.lemmas.List.Sums.{sum_by-append}
use Rattle.std.proofs.lemmas.Bool.Decides.{nat_tests}
use Rattle.scan.specs.Count.{bit}
use Rattle.scan.specs.Depth.{covers}
use Rattle.scan.proofs.Counting.{from_to}
use Rattle.domain.specs.Maps.{times, Parts, Inside}
use Rattle.domain.proofs.Totals.{times_cons}
use Rattle.plane.specs.declared.plane_box.PlaneBox.{PlaneBox}
use Rattle.plane.specs.Boxes.{columns, rows, wide, tall, holds, within, left_of, right_of, below, above, strips, plane}
use Rattle.plane.specs.Cells.{among, cells_times, cells_within, listed_one}
use Rattle.plane.specs.Within.{Within}

times_append : (n : ℕ) (ps qs : List PlaneBox) → times plane n (ps ++ qs) ≡ times plane n ps + times plane n qs
times_append n ps qs = sum_by-append (λ p. cond (holds p n) 1 0) ps qs

four : (n : ℕ) (q : PlaneBox) (a b c d : List PlaneBox) → times plane n (q ∷ (a ++ (b ++ (c ++ d)))) ≡ bit (holds q n) + times plane n a + times plane n b + times plane n c + times plane n d
four n q a b c d =
    omega (arith, times_cons plane n q (a ++ (b ++ (c ++ d))), times_append n a (b ++ (c ++ d)), times_append n b (c ++ d), times_append n c d)

module _ (p q : PlaneBox) (w : Within q p) where
  -- the arithmetic of the four strips, at column i and row j
  cut : (i j : ℕ) →
      bit (covers (columns q) i && covers (rows q) j)
      + bit (from_to p.columns.low (p.columns.low + (q.columns.low - p.columns.low)) i && from_to p.rows.low (p.rows.low + tall p) j)
      + bit (from_to (q.columns.high + 1) (q.columns.high + 1 + (p.columns.high - q.columns.high)) i && from_to p.rows.low (p.rows.low + tall p) j)
      + bit (from_to q.columns.low (q.columns.low + wide q) i && from_to p.rows.low (p.rows.low + (q.rows.low - p.rows.low)) j)
      + bit (from_to q.columns.low (q.columns.low + wide q) i && from_to (q.rows.high + 1) (q.rows.high + 1 + (p.rows.high - q.rows.high)) j)
      ≡ bit (covers (columns p) i && covers (rows p) j)
  cut i j = let a = q.columns.ordered in let b = q.rows.ordered in grind (arith, nat_tests)

  left_times : (n : ℕ) → times plane n (option_to_list (left_of p q)) ≡ bit (among p.columns.low p.rows.low (q.columns.low - p.columns.low) (tall p) n)
  left_times n = cells_times p.columns.low p.rows.low (q.columns.low - p.columns.low) (tall p) (omega (arith, w, q.columns.ordered, p.columns.most)) (omega (arith, p.rows.ordered, p.rows.most)) n

  right_times : (n : ℕ) → times plane n (option_to_list (right_of p q)) ≡ bit (among (q.columns.high + 1) p.rows.low (p.columns.high - q.columns.high) (tall p) n)
  right_times n = cells_times (q.columns.high + 1) p.rows.low (p.columns.high - q.columns.high) (tall p) (omega (arith, w, p.columns.most)) (omega (arith, p.rows.ordered, p.rows.most)) n

  below_times : (n : ℕ) → times plane n (option_to_list (below p q)) ≡ bit (among q.columns.low p.rows.low (wide q) (q.rows.low - p.rows.low) n)
  below_times n = cells_times q.columns.low p.rows.low (wide q) (q.rows.low - p.rows.low) (omega (arith, q.columns.ordered, q.columns.most)) (omega (arith, w, q.rows.ordered, q.rows.most)) n

  above_times : (n : ℕ) → times plane n (option_to_list (above p q)) ≡ bit (among q.columns.low (q.rows.high + 1) (wide q) (p.rows.high - q.rows.high) n)
  above_times n = cells_times q.columns.low (q.rows.high + 1) (wide q) (p.rows.high - q.rows.high) (omega (arith, q.columns.ordered, q.columns.most)) (omega (arith, w, p.rows.most)) n

  pub stripped : Parts plane p (q ∷ strips p q)
  stripped n =
      four n q (option_to_list (left_of p q)) (option_to_list (right_of p q)) (option_to_list (below p q)) (option_to_list (above p q))
      ∙ omega (arith, left_times n, right_times n, below_times n, above_times n, cut (n % 4096) (n / 4096))

  pub strips_within : Inside plane p (strips p q)
  strips_within =
      let a = q.columns.ordered in
      let b = q.rows.ordered in
      let r = p.columns.most in
      let t = p.rows.most in
      let Q : PlaneBox → Type 0 = λ s. within s p ≡ true in
      All-append Q (option_to_list (left_of p q)) _ (cells_within p.columns.low p.rows.low (q.columns.low - p.columns.low) (tall p) (omega arith) (omega arith) p (omega arith) (omega arith) (omega arith) (omega arith))
      (All-append Q (option_to_list (right_of p q)) _ (cells_within (q.columns.high + 1) p.rows.low (p.columns.high - q.columns.high) (tall p) (omega arith) (omega arith) p (omega arith) (omega arith) (omega arith) (omega arith))
      (All-append Q (option_to_list (below p q)) _ (cells_within q.columns.low p.rows.low (wide q) (q.rows.low - p.rows.low) (omega arith) (omega arith) p (omega arith) (omega arith) (omega arith) (omega arith))
      (cells_within q.columns.low (q.rows.high + 1) (wide q) (p.rows.high - q.rows.high) (omega arith) (omega arith) p (omega arith) (omega arith) (omega arith) (omega arith))))

  pub strips_few : length (strips p q) ≤ 4
  strips_few =
      let a = option_to_list (left_of p q) in
      let b = option_to_list (right_of p q) in
      let c = option_to_list (below p q) in
      let d = option_to_list (above p q) in
      omega (arith, length-append a (b ++ (c ++ d)), length-append b (c ++ d), length-append c d, listed_one (left_of p q), listed_one (right_of p q), listed_one (below p q), listed_one (above p q))
