-- What the calls of the plane promise besides its maps.
use Rattle.std.specs.Prelude.{◌≡◌, ℕ, ◌/◌, ◌%◌, ◌^◌, ◌<◌, ◌≤◌, true, false, ◌⊎◌, List, [], is_some, Some, None, Decides, Option}
use Rattle.domain.specs.Maps.{Holds, joined}
use Rattle.plane.specs.declared.plane_box.PlaneBox.{PlaneBox}
use Rattle.plane.specs.Boxes.{box_of, point, holds, gather, plane}

-- column x and row y are within a box's ranges
abbrev pub InRanges : PlaneBox → ℕ → ℕ → Type 0
InRanges b x y = (b.columns.low ≤ x) × (x ≤ b.columns.high) × (b.rows.low ≤ y) × (y ≤ b.rows.high)

-- a box holds point 4096·y + x exactly when x and y are within its ranges, and nothing from 2 ^ 24 on;
-- and each point's number leads back to the point
pub record Exact (b : PlaneBox) : Type 0 where
  pub points : (x y : ℕ) → x < 4096 → y < 4096 → Decides (holds b (point x y)) (InRanges b x y)
  pub no_others : (n : ℕ) → 2 ^ 24 ≤ n → holds b n ≡ false
  pub leads_back : (x y : ℕ) → x < 4096 → y < 4096 → (point x y < 2 ^ 24) × (point x y % 4096 ≡ x) × (point x y / 4096 ≡ y)

-- a point that one of two holds, either of which may be nothing
abbrev pub HeldByEither : Option PlaneBox → Option PlaneBox → ℕ → Type 0
HeldByEither one other n = Holds plane one n ⊎ Holds plane other n

-- the gathering of boxes, if all of them are boxes
abbrev pub gathering : Option PlaneBox → Option (List PlaneBox) → ℕ → Option PlaneBox
gathering None ps k = None
gathering (Some x) None k = None
gathering (Some x) (Some ps) k = gather x ps k

-- worked values
pub record Worked : Type 0 where
  -- 0,0,4095,4095 is a box, and 0,0,4096,0 is none
  pub largest : is_some (box_of 0 0 4095 4095) ≡ true
  pub too_large : box_of 0 0 4096 0 ≡ None
  -- 0,0,1,1, then 0,8,1,9, then 8,0,9,1, gathered in 0,0,9,9 at depth 2, are 0,0,1,1, which is a box
  pub gathered : gathering (box_of 0 0 9 9) (joined (box_of 0 0 1 1) (joined (box_of 0 8 1 9) (joined (box_of 8 0 9 1) (Some [])))) 2 ≡ box_of 0 0 1 1
  pub a_box : is_some (box_of 0 0 1 1) ≡ true
