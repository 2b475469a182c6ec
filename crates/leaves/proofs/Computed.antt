-- The worked values, computed.
use Rattle.std.proofs.Common.{refl}
use Rattle.scan.specs.Live.{run, first_live, last_live}
use Rattle.dial.specs.Arcs.{arc_of, point, offset}
use Rattle.plane.specs.Boxes.{box_of}
use Rattle.plane.specs.Spans.{span_of}
use Rattle.leaves.specs.Extremes.{least, greatest, least_z, greatest_z}
use Rattle.leaves.specs.Rings.{distance}
use Rattle.leaves.specs.Worked.{WorkedRing, WorkedCone, WorkedArc}

pub worked_ring : WorkedRing
unfolding box_of span_of run first_live last_live least greatest distance
worked_ring = record { keeps_all = refl; sheds_corner = refl; keeps_cell = refl; keeps_nothing = refl; boxes = (refl, refl, refl, refl) }

pub worked_cone : WorkedCone
unfolding box_of span_of run first_live last_live least_z greatest_z
worked_cone = record { keeps_all = refl; sheds_above = refl; boxes = (refl, refl) }

pub worked_arc : WorkedArc
unfolding arc_of point offset run first_live last_live
worked_arc = record { keeps_all = refl; sheds_others = refl; keeps_itself = refl; arcs = (refl, refl, refl, refl) }
