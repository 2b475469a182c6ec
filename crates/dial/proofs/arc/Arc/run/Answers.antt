use Rattle.dial.specs.Arcs.{point}
use Rattle.dial.specs.Made.{arc_own}
use Rattle.dial.proofs.arc.Arc.run.Goals as goal

pub returns : goal.returns
unfolding point
returns c = arc_own _
