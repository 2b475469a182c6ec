-- The plane: points in 4,096 columns and 4,096 rows, the boxes of them, and its maps.
use Rattle.std.specs.Prelude.{◌≡◌, ℕ, ◌+◌, ◌-◌, ◌*◌, ◌/◌, ◌%◌, ◌^◌, ◌≤◌, min, max, Bool, cond, ◌&&◌, List, ◌++◌, map, Some, None, Option, nat_le}
use Rattle.std.specs.Option.{unwrap_or, option_to_list}
use Rattle.scan.specs.Depth.{covers, deep}
use Rattle.scan.specs.Live.{run}
use Rattle.scan.specs.Powers.{log_up}
use Rattle.scan.specs.declared.stretch.Stretch.{Stretch}
use Rattle.domain.specs.Maps.{Maps}
use Rattle.plane.specs.declared.span.Span.{Span}
use Rattle.plane.specs.declared.plane_box.PlaneBox.{PlaneBox}
use Rattle.plane.specs.Spans.{span_of, many_from, stretch, long}

-- four numbers that make a box
abbrev pub AreBox : ℕ → ℕ → ℕ → ℕ → Type 0
AreBox x0 y0 x1 y1 = (x0 ≤ x1) × (y0 ≤ y1) × (x1 ≤ 4095) × (y1 ≤ 4095)

-- the box of a span of columns and a span of rows; nothing if either is nothing
abbrev pub crossing : Option Span → Option Span → Option PlaneBox
crossing None r = None
crossing (Some c) None = None
crossing (Some c) (Some r) = Some (record { columns = c; rows = r })

-- the box of columns x0 to x1 and rows y0 to y1, where x0 ≤ x1 ≤ 4095 and y0 ≤ y1 ≤ 4095
unfoldable pub box_of : ℕ → ℕ → ℕ → ℕ → Option PlaneBox
box_of x0 y0 x1 y1 = crossing (span_of x0 x1) (span_of y0 y1)

-- a box has these numbers
abbrev pub HasNumbers : ℕ → ℕ → ℕ → ℕ → PlaneBox → Type 0
HasNumbers x0 y0 x1 y1 b = (b.columns.low ≡ x0) × (b.rows.low ≡ y0) × (b.columns.high ≡ x1) × (b.rows.high ≡ y1)

-- the box of w columns from x on and h rows from y on; nothing if there is no column or no row
unfoldable pub cells : ℕ → ℕ → ℕ → ℕ → Option PlaneBox
cells x y w h = crossing (many_from x w) (many_from y h)

-- a box's columns and its rows
abbrev pub columns : PlaneBox → Stretch
columns b = stretch b.columns

abbrev pub rows : PlaneBox → Stretch
rows b = stretch b.rows

-- how many columns, and how many rows
abbrev pub wide : PlaneBox → ℕ
wide b = long b.columns

abbrev pub tall : PlaneBox → ℕ
tall b = long b.rows

-- point 4096·y + x lies in column x and row y
abbrev pub point : ℕ → ℕ → ℕ
point x y = 4096 * y + x

abbrev pub holds : PlaneBox → ℕ → Bool
holds b n = covers (columns b) (n % 4096) && covers (rows b) (n / 4096)

-- whether one stretch lies in another
abbrev pub lies_in : Stretch → Stretch → Bool
lies_in s t = nat_le t.low s.low && nat_le s.high t.high

abbrev pub within : PlaneBox → PlaneBox → Bool
within q p = lies_in (columns q) (columns p) && lies_in (rows q) (rows p)

-- the first i columns and the others; the first i rows and the others
abbrev pub cut_columns : PlaneBox → ℕ → PlaneBox × PlaneBox
cut_columns b i = (unwrap_or (cells b.columns.low b.rows.low i (tall b)) b, unwrap_or (cells (b.columns.low + i) b.rows.low (wide b - i) (tall b)) b)

abbrev pub cut_rows : PlaneBox → ℕ → PlaneBox × PlaneBox
cut_rows b i = (unwrap_or (cells b.columns.low b.rows.low (wide b) i) b, unwrap_or (cells b.columns.low (b.rows.low + i) (wide b) (tall b - i)) b)

-- the longer side is cut, the columns if both are as long
abbrev pub halves : PlaneBox → PlaneBox × PlaneBox
halves b = cond (nat_le (tall b) (wide b)) (cut_columns b (wide b / 2)) (cut_rows b (tall b / 2))

-- p without q: the columns left of q and those right of it, over all rows of p; then, over the columns of q,
-- the rows of smaller y and those of larger y
abbrev pub left_of : PlaneBox → PlaneBox → Option PlaneBox
left_of p q = cells p.columns.low p.rows.low (q.columns.low - p.columns.low) (tall p)

abbrev pub right_of : PlaneBox → PlaneBox → Option PlaneBox
right_of p q = cells (q.columns.high + 1) p.rows.low (p.columns.high - q.columns.high) (tall p)

abbrev pub below : PlaneBox → PlaneBox → Option PlaneBox
below p q = cells q.columns.low p.rows.low (wide q) (q.rows.low - p.rows.low)

abbrev pub above : PlaneBox → PlaneBox → Option PlaneBox
above p q = cells q.columns.low (q.rows.high + 1) (wide q) (p.rows.high - q.rows.high)

abbrev pub strips : PlaneBox → PlaneBox → List PlaneBox
strips p q = option_to_list (left_of p q) ++ (option_to_list (right_of p q) ++ (option_to_list (below p q) ++ option_to_list (above p q)))

-- from the smaller first to the larger last column, and so the rows
abbrev pub hull : PlaneBox → PlaneBox → Option PlaneBox
hull p q = box_of (min p.columns.low q.columns.low) (min p.rows.low q.rows.low) (max p.columns.high q.columns.high) (max p.rows.high q.rows.high)

abbrev pub span : PlaneBox → Option PlaneBox → Option PlaneBox → Option PlaneBox
span x None o = o
span x (Some p) None = Some p
span x (Some p) (Some q) = hull p q

-- from the first to the last column of x that at least k of the listed boxes' columns hold; and so the rows
abbrev pub deep_columns : PlaneBox → List PlaneBox → ℕ → Option Stretch
deep_columns x ps k = run (deep k (map columns ps)) x.columns.low (wide x)

abbrev pub deep_rows : PlaneBox → List PlaneBox → ℕ → Option Stretch
deep_rows x ps k = run (deep k (map rows ps)) x.rows.low (tall x)

-- the box of a run of columns and a run of rows; nothing if either is empty
abbrev pub crossed : Option Stretch → Option Stretch → Option PlaneBox
crossed None r = None
crossed (Some c) None = None
crossed (Some c) (Some r) = box_of c.low r.low c.high r.high

abbrev pub gather : PlaneBox → List PlaneBox → ℕ → Option PlaneBox
gather x ps k = crossed (deep_columns x ps k) (deep_rows x ps k)

abbrev pub number : PlaneBox → ℕ
number b = b.columns.low * 2 ^ 36 + b.rows.low * 2 ^ 24 + b.columns.high * 2 ^ 12 + b.rows.high

abbrev pub box_numbered : ℕ → Option PlaneBox
box_numbered n = box_of (n / 2 ^ 36) (n / 2 ^ 24 % 2 ^ 12) (n / 2 ^ 12 % 2 ^ 12) (n % 2 ^ 12)

abbrev pub plane : Maps PlaneBox
plane = record {
  holds = holds;
  count = λ b. wide b * tall b;
  size = λ b. max (wide b) (tall b);
  number = number;
  piece = box_numbered;
  within = within;
  halves = halves;
  strips = strips;
  span = span;
  gather = gather;
  height = λ b. log_up (wide b) + log_up (tall b);
}
