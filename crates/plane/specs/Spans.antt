-- Spans: runs of the plane's columns, or of its rows.
use Rattle.std.specs.Prelude.{◌≡◌, ℕ, zero, suc, ◌+◌, ◌-◌, ◌≤◌, Some, None, Option}
use Rattle.std.proofs.Math.Decide.{dec_le}
use Rattle.scan.specs.declared.stretch.Stretch.{Stretch}
use Rattle.plane.specs.declared.span.Span.{Span}

-- two numbers that are the ends of a span
abbrev pub AreEnds : ℕ → ℕ → Type 0
AreEnds low high = (low ≤ high) × (high ≤ 4095)

-- the span from low to high, where low ≤ high ≤ 4095
abbrev pub decided : (low high : ℕ) → Dec (low ≤ high) → Dec (high ≤ 4095) → Option Span
decided low high (yes p) (yes q) = Some (record { low = low; high = high; ordered = p; most = q })
decided low high (yes p) (no q) = None
decided low high (no p) q = None

unfoldable pub span_of : ℕ → ℕ → Option Span
unfolding dec_le
span_of low high = decided low high (dec_le low high) (dec_le high 4095)

-- a span has these ends
abbrev pub HasEnds : ℕ → ℕ → Span → Type 0
HasEnds low high s = (s.low ≡ low) × (s.high ≡ high)

-- so many columns or rows from `first` on; nothing if there is none
unfoldable pub many_from : ℕ → ℕ → Option Span
many_from first zero = None
many_from first (suc n) = span_of first (first + n)

-- a span has so many columns or rows, from `first` on
abbrev pub HasMany : ℕ → ℕ → Span → Type 0
HasMany first n s = (s.low ≡ first) × (suc s.high ≡ first + n)

-- a span as a stretch, and a stretch as a span, where it is one
abbrev pub stretch : Span → Stretch
stretch s = record { low = s.low; high = s.high }

abbrev pub spanned : Stretch → Option Span
spanned s = span_of s.low s.high

-- how many columns or rows
abbrev pub long : Span → ℕ
long s = suc s.high - s.low
