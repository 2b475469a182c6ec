use Rattle.std.proofs.Common.{arith}
use Rattle.dial.specs.Offsets.{offset_below}
use Rattle.dial.proofs.arc.Arc.begin_of.Goals as goal

pub returns : goal.returns
returns c = (c.offset_of.ensures, omega (arith, c.offset_of.ensures, offset_below c.args.self.now.start c.args.other.now.start c.args.self.now.placed c.args.other.now.placed))
