use Rattle.std.proofs.Common.{arith}
use Rattle.std.proofs.lemmas.Int.{to_z-of_z}
use Rattle.plane.specs.Spans.{stretch}
use Rattle.leaves.specs.ConeLaws.{sheds_same}
use Rattle.leaves.proofs.cone.Cone.shed_by.Goals as goal

pub returns : goal.returns
returns c =
    let k = c.args.self in
    λ i h.
    sheds_same k.u.x k.u.y k.v.y k.v.x k.beacon.x k.beacon.y (stretch c.args.rows) c.args.rows.ordered _ _ i h (grind (arith, to_z-of_z)) (grind (arith, to_z-of_z))
