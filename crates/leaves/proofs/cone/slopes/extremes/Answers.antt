use Rattle.std.proofs.Common.{arith}
use Rattle.std.proofs.lemmas.Int.{to_z-of_z}
use Rattle.leaves.proofs.cone.slopes.extremes.Goals as goal

pub invariant_of-greatest : goal.invariant_of-greatest
invariant_of-greatest c = record { most = grind (arith, to_z-of_z) }
