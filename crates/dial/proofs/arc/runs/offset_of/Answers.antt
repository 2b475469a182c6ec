use Rattle.std.proofs.Common.{refl}
use Rattle.dial.specs.Arcs.{offset}
use Rattle.dial.proofs.arc.runs.offset_of.Goals as goal

pub returns : goal.returns
unfolding offset
returns c = refl
