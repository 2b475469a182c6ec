use Rattle.std.proofs.Common.{refl}
use Rattle.sheet.specs.Rolls.{rolled}
use Rattle.sheet.proofs.roll.Roll.empty.Goals as goal

pub returns : goal.returns
unfolding rolled
returns g c = refl
