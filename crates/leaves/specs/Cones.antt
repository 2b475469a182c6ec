-- A cone: the points between two directions from a beacon, counterclockwise from the first to the second.
use Rattle.std.specs.Prelude.{◌≡◌, ℕ, ◌/◌, ◌%◌, Bool, ◌&&◌, ◌||◌, ◌⊎◌, ℤ, pos, ◌-ℤ◌, ◌*ℤ◌, ◌<ℤ◌, Option, Result, MatchResult, int_le, int_lt}
use Rattle.std.specs.Int.{int_max, int_min}
use Rattle.domain.specs.Refusals.{code}
use Rattle.domain.specs.declared.refusal.Refusal.{Refusal}
use Rattle.scan.specs.declared.stretch.Stretch.{Stretch}
use Rattle.plane.specs.declared.plane_box.PlaneBox.{PlaneBox}
use Rattle.leaves.specs.Extremes.{least_signed, greatest_signed}
use Rattle.leaves.specs.Judged.{Test, judged}
use Rattle.leaves.specs.Rings.{AreWithin, IsBeacon}
use Rattle.leaves.specs.declared.cone.Cone.{Cone}

-- how far column or row i lies from a beacon's, with its sign: i − b
abbrev pub offset : ℤ → ℕ → ℤ
offset b i = pos i -ℤ b

-- p·d − q·e, the side of a line on which a point lies
abbrev pub side : (p q d e : ℤ) → ℤ
side p q d e = p *ℤ d -ℤ q *ℤ e

-- column x and row y: ux·dy − uy·dx ≥ 0 and vy·dx − vx·dy ≥ 0
abbrev pub in_cone : Cone → ℕ → ℕ → Bool
in_cone c x y =
    int_le (pos 0) (side c.u.x c.u.y (offset c.beacon.y y) (offset c.beacon.x x))
    && int_le (pos 0) (side c.v.y c.v.x (offset c.beacon.x x) (offset c.beacon.y y))

abbrev pub cone_set : Cone → ℕ → Bool
cone_set c n = in_cone c (n % 4096) (n / 4096)

-- with the one beacon's number along and the other across: the two product sums at index i, over the indices j across
abbrev pub ahead : (p q along across : ℤ) → ℕ → ℕ → ℤ
ahead p q along across i j = side p q (offset across j) (offset along i)

abbrev pub behind : (r t along across : ℤ) → ℕ → ℕ → ℤ
behind r t along across i j = side r t (offset along i) (offset across j)

-- index i is live for keep when the greatest value of each is at least 0
abbrev pub keeps : (p q r t along across : ℤ) → Test
keeps p q r t along across s i =
    int_le (pos 0) (greatest_signed (ahead p q along across i) s)
    && int_le (pos 0) (greatest_signed (behind r t along across i) s)

-- and for shed when the least value of either is below 0
abbrev pub sheds : (p q r t along across : ℤ) → Test
sheds p q r t along across s i =
    int_lt (least_signed (ahead p q along across i) s) (pos 0)
    || int_lt (least_signed (behind r t along across i) s) (pos 0)

-- the larger and the smaller of a direction number's products at the two ends of a stretch
abbrev pub most : (p across : ℤ) → Stretch → ℤ
most p across s = int_max (p *ℤ offset across s.low) (p *ℤ offset across s.high)

abbrev pub fewest : (p across : ℤ) → Stretch → ℤ
fewest p across s = int_min (p *ℤ offset across s.low) (p *ℤ offset across s.high)

-- columns by rows; then rows by columns, where the second product sum has the columns in front
abbrev pub cone_kept : Cone → PlaneBox → Option PlaneBox
cone_kept c x =
    judged (keeps c.u.x c.u.y c.v.y c.v.x c.beacon.x c.beacon.y) (keeps c.v.y c.v.x c.u.x c.u.y c.beacon.y c.beacon.x) x

abbrev pub cone_dropped : Cone → PlaneBox → Option PlaneBox
cone_dropped c x =
    judged (sheds c.u.x c.u.y c.v.y c.v.x c.beacon.x c.beacon.y) (sheds c.v.y c.v.x c.u.x c.u.y c.beacon.y c.beacon.x) x

-- the numbers that make a cone: a beacon and two directions in their ranges, and ux·vy − uy·vx above 0
abbrev pub IsDirection : ℤ → ℤ → Type 0
IsDirection x y = AreWithin 2047 x y

abbrev pub AreDirections : (ux uy vx vy : ℤ) → Type 0
AreDirections ux uy vx vy = IsDirection ux uy × IsDirection vx vy

pub record InRange (bx by ux uy vx vy : ℤ) : Type 0 where
  pub beacon : IsBeacon bx by
  pub directions : AreDirections ux uy vx vy

abbrev pub IsOpen : (ux uy vx vy : ℤ) → Type 0
IsOpen ux uy vx vy = pos 0 <ℤ side ux uy vy vx

-- a cone has these numbers
pub record HasNumbers (bx by ux uy vx vy : ℤ) (c : Cone) : Type 0 where
  pub bx_is : c.beacon.x ≡ bx
  pub by_is : c.beacon.y ≡ by
  pub ux_is : c.u.x ≡ ux
  pub uy_is : c.u.y ≡ uy
  pub vx_is : c.v.x ≡ vx
  pub vy_is : c.v.y ≡ vy

-- refused with 3 just when a number is beyond its range, with 5 just when none is and the product is not above 0
abbrev pub ConeMade : (bx by ux uy vx vy : ℤ) → Result Cone Refusal → Type 0
ConeMade bx by ux uy vx vy r =
    MatchResult r (λ c. InRange bx by ux uy vx vy × IsOpen ux uy vx vy × HasNumbers bx by ux uy vx vy c)
    (λ e. ((InRange bx by ux uy vx vy → ⊥) × (code e ≡ 3)) ⊎ (InRange bx by ux uy vx vy × (IsOpen ux uy vx vy → ⊥) × (code e ≡ 5)))
