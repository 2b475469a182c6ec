-- The least and the greatest value of a map over a stretch of indices.
use Rattle.std.specs.Prelude.{ℕ, zero, suc, ◌-◌, min, max, ℤ}
use Rattle.std.specs.Int.{int_max, int_min}
use Rattle.scan.specs.declared.stretch.Stretch.{Stretch}

-- of the values at a and at the w indices after it
unfoldable pub least : (ℕ → ℕ) → ℕ → ℕ → ℕ
least f a zero = f a
least f a (suc w) = min (f a) (least f (suc a) w)

unfoldable pub greatest : (ℕ → ℕ) → ℕ → ℕ → ℕ
greatest f a zero = f a
greatest f a (suc w) = max (f a) (greatest f (suc a) w)

abbrev pub least_over : (ℕ → ℕ) → Stretch → ℕ
least_over f s = least f s.low (s.high - s.low)

abbrev pub greatest_over : (ℕ → ℕ) → Stretch → ℕ
greatest_over f s = greatest f s.low (s.high - s.low)

-- the same of signed values
unfoldable pub least_z : (ℕ → ℤ) → ℕ → ℕ → ℤ
least_z f a zero = f a
least_z f a (suc w) = int_min (f a) (least_z f (suc a) w)

unfoldable pub greatest_z : (ℕ → ℤ) → ℕ → ℕ → ℤ
greatest_z f a zero = f a
greatest_z f a (suc w) = int_max (f a) (greatest_z f (suc a) w)

abbrev pub least_signed : (ℕ → ℤ) → Stretch → ℤ
least_signed f s = least_z f s.low (s.high - s.low)

abbrev pub greatest_signed : (ℕ → ℤ) → Stretch → ℤ
greatest_signed f s = greatest_z f s.low (s.high - s.low)
