use Rattle.std.proofs.Common.{arith}
use Rattle.sheet.specs.Piles.{waiting}
use Rattle.sheet.proofs.Piling.{reverse_pop}
use Rattle.sheet.proofs.pile.Pile.pop.Goals as goal

pub returns : goal.returns
unfolding waiting
returns g c = reverse_pop c.args.self.now.items c.args.self.now.len c.requires (omega arith)
