use Rattle.std.proofs.Common.{refl}
use Rattle.sheet.specs.Piles.{waiting}
use Rattle.sheet.proofs.pile.Pile.pieces.Goals as goal

pub returns : goal.returns
unfolding waiting
returns g c = refl
