-- The two halves of a box.
use Rattle.std.specs.Prelude.{◌≡◌, ℕ, ◌+◌, ◌-◌, ◌/◌, ◌%◌, ◌<◌, ◌≤◌, max, ◌&&◌, ◌⊎◌, [], ◌∷◌, nat_le}
use Rattle.std.proofs.Common.{arith, inl, inr, sym, ap, subst, ◌∙◌}
use Rattle.std.proofs.lemmas.Bool.{cases_Bool, leb-true, leb-false, cond-true, cond-false}
use Rattle.std.proofs.lemmas.Bool.Decides.{nat_tests}
use Rattle.scan.specs.Count.{bit}
use Rattle.scan.specs.Depth.{covers}
use Rattle.scan.specs.Powers.{log_up}
use Rattle.scan.proofs.Counting.{from_to}
use Rattle.scan.proofs.Logs.{log_up_mono, log_up_half}
use Rattle.domain.specs.Maps.{times, Parts, Inside}
use Rattle.domain.proofs.Totals.{times_cons}
use Rattle.plane.specs.declared.plane_box.PlaneBox.{PlaneBox}
use Rattle.plane.specs.Boxes.{columns, rows, wide, tall, holds, cut_columns, cut_rows, halves, plane}
use Rattle.plane.specs.Cells.{Boxed, boxed_holds, cells_chosen}
use Rattle.plane.specs.Within.{within_from}

-- a and b are the two parts of p, by columns or by rows, where the cut comes after at most half of them
abbrev ByColumns : PlaneBox → ℕ → PlaneBox × PlaneBox → Type 0
ByColumns p i c = Boxed p.columns.low p.rows.low i (tall p) c.0 × Boxed (p.columns.low + i) p.rows.low (wide p - i) (tall p) c.1

abbrev ByRows : PlaneBox → ℕ → PlaneBox × PlaneBox → Type 0
ByRows p i c = Boxed p.columns.low p.rows.low (wide p) i c.0 × Boxed p.columns.low (p.rows.low + i) (wide p) (tall p - i) c.1

columns_cut : (p : PlaneBox) (i : ℕ) → 0 < i → i < wide p → ByColumns p i (cut_columns p i)
columns_cut p i h k =
    let y = p.rows.ordered in
    let r = p.columns.most in
    let t = p.rows.most in
    (cells_chosen p.columns.low p.rows.low i (tall p) (omega arith) (omega arith) p h (omega arith), cells_chosen (p.columns.low + i) p.rows.low (wide p - i) (tall p) (omega arith) (omega arith) p (omega arith) (omega arith))

rows_cut : (p : PlaneBox) (i : ℕ) → 0 < i → i < tall p → ByRows p i (cut_rows p i)
rows_cut p i h k =
    let x = p.columns.ordered in
    let r = p.columns.most in
    let t = p.rows.most in
    (cells_chosen p.columns.low p.rows.low (wide p) i (omega arith) (omega arith) p (omega arith) h, cells_chosen p.columns.low (p.rows.low + i) (wide p) (tall p - i) (omega arith) (omega arith) p (omega arith) (omega arith))

-- one way or the other
pub halves_cases : (p : PlaneBox) → 1 < max (wide p) (tall p) → ((tall p ≤ wide p) × ByColumns p (wide p / 2) (halves p)) ⊎ ((wide p < tall p) × ByRows p (tall p / 2) (halves p))
halves_cases p h =
    elim (cases_Bool (nat_le (tall p) (wide p))) [
      | inl e ↦ let l = leb-true (tall p) (wide p) e in inl (l, subst (ByColumns p (wide p / 2)) (sym (cond-true (nat_le (tall p) (wide p)) (cut_columns p (wide p / 2)) (cut_rows p (tall p / 2)) e)) (columns_cut p (wide p / 2) (omega arith) (omega arith)))
      | inr e ↦ let l = leb-false (tall p) (wide p) e in inr (l, subst (ByRows p (tall p / 2)) (sym (cond-false (nat_le (tall p) (wide p)) (cut_columns p (wide p / 2)) (cut_rows p (tall p / 2)) e)) (rows_cut p (tall p / 2) (omega arith) (omega arith)))
    ]

pair_times : (n : ℕ) (a b : PlaneBox) → times plane n (a ∷ b ∷ []) ≡ bit (holds a n) + bit (holds b n)
pair_times n a b = omega (arith, times_cons plane n a (b ∷ []), times_cons plane n b [])

-- the arithmetic of a cut
columns_split : (p : PlaneBox) (i m k : ℕ) → i ≤ wide p → bit (from_to p.columns.low (p.columns.low + i) m && from_to p.rows.low (p.rows.low + tall p) k) + bit (from_to (p.columns.low + i) (p.columns.low + i + (wide p - i)) m && from_to p.rows.low (p.rows.low + tall p) k) ≡ bit (covers (columns p) m && covers (rows p) k)
columns_split p i m k h = let x = p.columns.ordered in let y = p.rows.ordered in grind (arith, nat_tests)

rows_split : (p : PlaneBox) (i m k : ℕ) → i ≤ tall p → bit (from_to p.columns.low (p.columns.low + wide p) m && from_to p.rows.low (p.rows.low + i) k) + bit (from_to p.columns.low (p.columns.low + wide p) m && from_to (p.rows.low + i) (p.rows.low + i + (tall p - i)) k) ≡ bit (covers (columns p) m && covers (rows p) k)
rows_split p i m k h = let x = p.columns.ordered in let y = p.rows.ordered in grind (arith, nat_tests)

pub halved : (p : PlaneBox) → 1 < max (wide p) (tall p) → Parts plane p ((halves p).0 ∷ (halves p).1 ∷ [])
halved p h n =
    pair_times n (halves p).0 (halves p).1
    ∙ elim (halves_cases p h) [
      | inl c ↦
          omega (arith, ap bit (boxed_holds p.columns.low p.rows.low (wide p / 2) (tall p) (halves p).0 c.1.0 n), ap bit (boxed_holds (p.columns.low + wide p / 2) p.rows.low (wide p - wide p / 2) (tall p) (halves p).1 c.1.1 n), columns_split p (wide p / 2) (n % 4096) (n / 4096) (omega arith))
      | inr c ↦
          omega (arith, ap bit (boxed_holds p.columns.low p.rows.low (wide p) (tall p / 2) (halves p).0 c.1.0 n), ap bit (boxed_holds p.columns.low (p.rows.low + tall p / 2) (wide p) (tall p - tall p / 2) (halves p).1 c.1.1 n), rows_split p (tall p / 2) (n % 4096) (n / 4096) (omega arith))
    ]

pub halves_within : (p : PlaneBox) → 1 < max (wide p) (tall p) → Inside plane p ((halves p).0 ∷ (halves p).1 ∷ [])
halves_within p h =
    let x = p.columns.ordered in
    let y = p.rows.ordered in
    let c = halves_cases p h in (
      within_from (halves p).0 p (omega (arith, c), omega (arith, c), omega (arith, c), omega (arith, c)),
      (within_from (halves p).1 p (omega (arith, c), omega (arith, c), omega (arith, c), omega (arith, c)), tt),
    )

abbrev height : PlaneBox → ℕ
height b = log_up (wide b) + log_up (tall b)

lower : (p b : PlaneBox) → ((wide b + wide b ≤ wide p + 1) × (1 < wide p) × (tall b ≤ tall p)) ⊎ ((tall b + tall b ≤ tall p + 1) × (1 < tall p) × (wide b ≤ wide p)) → height b < height p
lower p b (inl h) =
    omega (arith, log_up_half (wide b) (wide p) h.0 h.1 (omega (arith, p.columns.most)), log_up_mono (tall b) (tall p) h.2 (omega (arith, p.rows.most)))
lower p b (inr h) =
    omega (arith, log_up_half (tall b) (tall p) h.0 h.1 (omega (arith, p.rows.most)), log_up_mono (wide b) (wide p) h.2 (omega (arith, p.columns.most)))

pub height_halves : (p : PlaneBox) → 1 < max (wide p) (tall p) → (height (halves p).0 < height p) × (height (halves p).1 < height p)
height_halves p h =
    elim (halves_cases p h) [
      | inl c ↦ (lower p (halves p).0 (inl (omega (arith, c), omega (arith, c), omega (arith, c))), lower p (halves p).1 (inl (omega (arith, c), omega (arith, c), omega (arith, c))))
      | inr c ↦ (lower p (halves p).0 (inr (omega (arith, c), omega (arith, c), omega (arith, c))), lower p (halves p).1 (inr (omega (arith, c), omega (arith, c), omega (arith, c))))
    ]
