-- A reading of the plane means what the ring or the cone means that it is.
use Rattle.std.specs.Prelude.{ℕ, Bool, Option}
use Rattle.plane.specs.declared.plane_box.PlaneBox.{PlaneBox}
use Rattle.leaves.specs.Cones.{cone_set, cone_kept, cone_dropped}
use Rattle.leaves.specs.Rings.{ring_set, ring_kept, ring_dropped}
use Rattle.leaves.specs.declared.plane_reading.PlaneReading.{PlaneReading}
use Rattle.leaves.specs.declared.plane_reading.PlaneReading.TheVariants.{Ring, Cone}

abbrev pub reading_set : PlaneReading → ℕ → Bool
reading_set (Ring r) n = ring_set r n
reading_set (Cone c) n = cone_set c n

abbrev pub reading_kept : PlaneReading → PlaneBox → Option PlaneBox
reading_kept (Ring r) x = ring_kept r x
reading_kept (Cone c) x = cone_kept c x

abbrev pub reading_dropped : PlaneReading → PlaneBox → Option PlaneBox
reading_dropped (Ring r) x = ring_dropped r x
reading_dropped (Cone c) x = cone_dropped c x
