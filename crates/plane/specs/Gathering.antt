-- Gathering boxes by their numbers.
use Rattle.std.specs.Prelude.{◌≡◌, ℕ, ◌+◌, ◌/◌, ◌%◌, ◌^◌, ◌<◌, List, map, Option, MatchOption, option_and_then}
use Rattle.scan.specs.Depth.{Below, deep}
use Rattle.scan.specs.Live.{run, Runs}
use Rattle.scan.specs.declared.stretch.Stretch.{Stretch}
use Rattle.domain.specs.Maps.{pieces}
use Rattle.plane.specs.declared.span.Span.{Span}
use Rattle.plane.specs.declared.plane_box.PlaneBox.{PlaneBox}
use Rattle.plane.specs.Spans.{spanned}
use Rattle.plane.specs.Boxes.{columns, rows, crossed, plane}

-- g is what is left of the boxes ps at depth k: the box from the first to the last column that at least k of
-- their column ranges hold, and from the first to the last such row; nothing where there is no such column or row
abbrev pub Crossing : List PlaneBox → ℕ → Option PlaneBox → Type 0
Crossing ps k g =
    (c : Option Stretch) × (r : Option Stretch)
    × Runs (deep k (map columns ps)) 0 4096 c × Runs (deep k (map rows ps)) 0 4096 r × (g ≡ crossed c r)

-- the same, of the boxes of a list of numbers
abbrev pub CrossingOf : List ℕ → ℕ → Option PlaneBox → Type 0
CrossingOf ns k g = MatchOption (pieces plane ns) ⊥ (λ ps. Crossing ps k g)

-- the columns and the rows of the box of a number, read off the number
abbrev pub columns_numbered : ℕ → Stretch
columns_numbered n = record { low = n / 2 ^ 36; high = n / 2 ^ 12 % 2 ^ 12 }

abbrev pub rows_numbered : ℕ → Stretch
rows_numbered n = record { low = n / 2 ^ 24 % 2 ^ 12; high = n % 2 ^ 12 }

-- the columns of the box of a number, read off the number at binary place 12, or its rows, at place 0: the
-- last one stands at the place, and the first one 24 places before it
abbrev pub numbered_at : ℕ → ℕ → Stretch
numbered_at place n = record { low = n / 2 ^ (place + 24) % 2 ^ 12; high = n / 2 ^ place % 2 ^ 12 }

-- r is the run of the indices that at least k of the listed members hold, by what their numbers say
abbrev pub Found : (ℕ → Stretch) → List ℕ → ℕ → Option Stretch → Type 0
Found extent ns k r = (b : ℕ) → 0 < k → Below b (map extent ns) → r ≡ run (deep k (map extent ns)) 0 b

-- s is that run as a span; nothing where it is none
abbrev pub FoundSpan : (ℕ → Stretch) → List ℕ → ℕ → Option Span → Type 0
FoundSpan extent ns k s = (r : Option Stretch) × Found extent ns k r × (s ≡ option_and_then spanned r)
