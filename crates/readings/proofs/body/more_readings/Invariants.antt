use Rattle.std.proofs.Common.{◌-◌}
use Rattle.readings.specs.Requests.{entered}
use Rattle.readings.proofs.Bodies.{Midway}
use Rattle.readings.proofs.body.more_readings.Given as goal

abbrev pub invariant-loop-reading : goal.invariant-loop-reading
invariant-loop-reading g l = Midway g.R.Entry.readings (entered l.initial.readings) l.rest (entered l.readings) l.readings.len l.left

abbrev pub decreases-loop-reading : goal.decreases-loop-reading
decreases-loop-reading g l = 16 - l.readings.len
