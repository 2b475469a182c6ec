use Rattle.std.proofs.Common.{refl}
use native.Mathlib.Decide.{dec_le, dec_lt}
use Rattle.scan.specs.Live.{first_live, last_live, run as live_run}
use Rattle.dial.specs.Arcs.{arc_of, point, offset}
use Rattle.leaves.proofs.Computed.{worked_arc, worked_cone, worked_ring}
use Rattle.paving.specs.Turns.{run}
use Rattle.plane.proofs.Promised.{worked}
use Rattle.table.proofs.worked_values.Goals as goal

pub returns : goal.returns
unfolding first_live last_live live_run run arc_of point offset dec_le dec_lt
returns c = record { ring = worked_ring; cone = worked_cone; arc = worked_arc; boxes = worked; paved = refl }
