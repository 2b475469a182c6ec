-- Worked values of the leaves.
use Rattle.std.specs.Prelude.{◌≡◌, ℕ, ◌≤◌, true, pos, is_some, Some, None, Option}
use Rattle.std.specs.Int.Signed.{le_z_yes, lt_z_yes}
use Rattle.std.proofs.Common.{lit≤}
use Rattle.dial.specs.Arcs.{arc_of}
use Rattle.dial.specs.declared.arc.Arc.{Arc}
use Rattle.plane.specs.Boxes.{box_of}
use Rattle.leaves.specs.Arcs.{kept, dropped}
use Rattle.leaves.specs.Cones.{cone_kept, cone_dropped}
use Rattle.leaves.specs.Rings.{ring_kept, ring_dropped}
use Rattle.leaves.specs.declared.cone.Cone.{Cone}
use Rattle.leaves.specs.declared.ring.Ring.{Ring}
use Rattle.leaves.specs.declared.vector.Vector.{Vector}

-- what a map makes of a piece, if it is one
abbrev pub of : {P : Type 0} → (P → Option P) → Option P → Option P
of f None = None
of f (Some x) = f x

-- the map that an arc, if it is one, has of a piece
abbrev pub arc_map : (Arc → Arc → Option Arc) → Option Arc → Option Arc → Option Arc
arc_map f None x = None
arc_map f (Some a) x = of (f a) x

-- the beacon 0,0
abbrev pub corner : Vector 16383
corner = record { x = pos 0; y = pos 0; x_least = le_z_yes tt; x_most = le_z_yes tt; y_least = le_z_yes tt; y_most = le_z_yes tt }

-- the ring 0,0,a,b
abbrev pub ring_around : (a b : ℕ) → a ≤ b → b ≤ 32767 → Ring
ring_around a b p q = record {
  beacon = corner;
  inner = a;
  outer = b;
  ordered = p;
  most = q;
}

-- the directions 1,0 and 1,1
abbrev pub level : Vector 2047
level = record { x = pos 1; y = pos 0; x_least = le_z_yes tt; x_most = le_z_yes tt; y_least = le_z_yes tt; y_most = le_z_yes tt }

abbrev pub slanting : Vector 2047
slanting = record { x = pos 1; y = pos 1; x_least = le_z_yes tt; x_most = le_z_yes tt; y_least = le_z_yes tt; y_most = le_z_yes tt }

-- the cone 0,0,1,0,1,1
abbrev pub eighth : Cone
eighth = record { beacon = corner; u = level; v = slanting; opens = lt_z_yes tt }

pub record WorkedRing : Type 0 where
  -- ring 0,0,0,3 on 0,0,3,3 keeps all and sheds 1,1,3,3
  pub keeps_all : of (ring_kept (ring_around 0 3 (lit≤ tt) (lit≤ tt))) (box_of 0 0 3 3) ≡ box_of 0 0 3 3
  pub sheds_corner : of (ring_dropped (ring_around 0 3 (lit≤ tt) (lit≤ tt))) (box_of 0 0 3 3) ≡ box_of 1 1 3 3
  -- ring 0,0,5,5 keeps 3,4,3,4, and nothing of 3,3,3,3
  pub keeps_cell : of (ring_kept (ring_around 5 5 (lit≤ tt) (lit≤ tt))) (box_of 3 4 3 4) ≡ box_of 3 4 3 4
  pub keeps_nothing : of (ring_kept (ring_around 5 5 (lit≤ tt) (lit≤ tt))) (box_of 3 3 3 3) ≡ None
  -- these are boxes
  pub boxes : (is_some (box_of 0 0 3 3) ≡ true) × (is_some (box_of 1 1 3 3) ≡ true) × (is_some (box_of 3 4 3 4) ≡ true) × (is_some (box_of 3 3 3 3) ≡ true)

pub record WorkedCone : Type 0 where
  -- cone 0,0,1,0,1,1 on 0,0,3,3 keeps all and sheds 0,1,2,3
  pub keeps_all : of (cone_kept eighth) (box_of 0 0 3 3) ≡ box_of 0 0 3 3
  pub sheds_above : of (cone_dropped eighth) (box_of 0 0 3 3) ≡ box_of 0 1 2 3
  pub boxes : (is_some (box_of 0 0 3 3) ≡ true) × (is_some (box_of 0 1 2 3) ≡ true)

pub record WorkedArc : Type 0 where
  -- arc 3598,4 on 0,3600 keeps all and sheds 2,3596
  pub keeps_all : arc_map kept (arc_of 3598 4) (arc_of 0 3600) ≡ arc_of 0 3600
  pub sheds_others : arc_map dropped (arc_of 3598 4) (arc_of 0 3600) ≡ arc_of 2 3596
  -- and keeps 3598,4 of 3590,20
  pub keeps_itself : arc_map kept (arc_of 3598 4) (arc_of 3590 20) ≡ arc_of 3598 4
  pub arcs : (is_some (arc_of 3598 4) ≡ true) × (is_some (arc_of 0 3600) ≡ true) × (is_some (arc_of 2 3596) ≡ true) × (is_some (arc_of 3590 20) ≡ true)
