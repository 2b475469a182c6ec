use Rattle.std.proofs.Common.{arith}
use Rattle.sheet.specs.Piles.{waiting}
use Rattle.sheet.proofs.Piling.{reverse_set}
use Rattle.sheet.proofs.pile.Pile.push.Goals as goal

pub returns : goal.returns
unfolding waiting
returns g c = reverse_set c.args.self.now.items c.args.self.now.len c.args.piece (omega arith)
