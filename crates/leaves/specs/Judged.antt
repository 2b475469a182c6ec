-- Columns judged by the rows of a box, then rows judged by the columns just kept.
use Rattle.std.specs.Prelude.{◌≡◌, ℕ, ◌≤◌, Bool, Some, None, Option, option_and_then}
use Rattle.scan.specs.Live.{run}
use Rattle.scan.specs.declared.stretch.Stretch.{Stretch}
use Rattle.plane.specs.declared.plane_box.PlaneBox.{PlaneBox}
use Rattle.plane.specs.declared.span.Span.{Span}
use Rattle.plane.specs.Spans.{stretch, spanned, long}
use Rattle.plane.specs.Boxes.{rows, wide, tall, crossed}

-- whether a column is live, by a stretch of rows; or a row, by a stretch of columns
abbrev pub Test : Type 0
Test = Stretch → ℕ → Bool

-- from the first to the last live column, judged by the rows of x
abbrev pub live_columns : Test → PlaneBox → Option Stretch
live_columns f x = run (f (rows x)) x.columns.low (wide x)

-- from the first to the last live row, judged by the columns kept
abbrev pub live_rows : Test → PlaneBox → Option Stretch → Option Stretch
live_rows g x None = None
live_rows g x (Some c) = run (g c) x.rows.low (tall x)

-- the box of both; nothing if no column or no row is live
abbrev pub judged : Test → Test → PlaneBox → Option PlaneBox
judged f g x = crossed (live_columns f x) (live_rows g x (live_columns f x))

-- two tests are the same on the plane
abbrev pub SameOnPlane : (ℕ → Bool) → (ℕ → Bool) → Type 0
SameOnPlane p q = (i : ℕ) → i ≤ 4095 → p i ≡ q i

-- what is found of a reading is the run, over a span along, of what is live by a span across
abbrev pub Finds : {R : Type 0} → (R → Span → Span → Option Span → Type 0) → (R → Test) → Type 0
Finds {R} found f =
    (r : R) (along across : Span) (o : Option Span) → found r along across o → o ≡ option_and_then spanned (run (f r (stretch across)) along.low (long along))
