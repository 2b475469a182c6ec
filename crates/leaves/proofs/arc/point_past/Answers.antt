use Rattle.std.proofs.Common.{arith}
use Rattle.dial.specs.Arcs.{point}
use Rattle.leaves.proofs.arc.point_past.Goals as goal

pub returns : goal.returns
unfolding point
returns c = (omega arith, omega arith)
