use Rattle.std.proofs.Common.{rules}
use Rattle.dial.proofs.Strips.{strip_part}
use Rattle.dial.proofs.arc.Arc.strip.Goals as goal

pub returns : goal.returns
returns c = strip_part c.args.self.now c.args.from c.args.len c.then.result c.then.ensures.variant (search rules)
