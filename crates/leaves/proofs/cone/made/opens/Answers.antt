use Rattle.std.proofs.Common.{arith, w32, to_z, of_z}
use Rattle.std.proofs.lemmas.Int.{ints}
use Rattle.leaves.specs.Products.{cross_is, above_decides}
use Rattle.leaves.proofs.cone.made.opens.Goals as goal

pub overflow_sub-result : goal.overflow_sub-result
overflow_sub-result c =
    let u = c.args.u in
    let v = c.args.v in
    (cross_is u.x v.y u.y v.x (to_z w32 (of_z w32 c.from.result)) (to_z w32 (of_z w32 c.from-2.result)) (to_z w32 (of_z w32 c.from-3.result)) (to_z w32 (of_z w32 c.from-4.result))
    (omega (arith, ints)) (omega (arith, ints)) (omega (arith, ints)) (omega (arith, ints)) (omega (arith, ints)) (omega (arith, ints)) (omega (arith, ints)) (omega (arith, ints))).0

pub returns : goal.returns
returns c =
    let u = c.args.u in
    let v = c.args.v in
    above_decides _ _
    (cross_is u.x v.y u.y v.x (to_z w32 (of_z w32 c.from.result)) (to_z w32 (of_z w32 c.from-2.result)) (to_z w32 (of_z w32 c.from-3.result)) (to_z w32 (of_z w32 c.from-4.result))
    (omega (arith, ints)) (omega (arith, ints)) (omega (arith, ints)) (omega (arith, ints)) (omega (arith, ints)) (omega (arith, ints)) (omega (arith, ints)) (omega (arith, ints))).1
