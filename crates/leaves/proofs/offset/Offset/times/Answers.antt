use Rattle.std.proofs.Common.{arith, w32, to_z, of_z}
use Rattle.std.proofs.lemmas.Int.{ints}
use Rattle.leaves.specs.Products.{product_is}
use Rattle.leaves.proofs.offset.Offset.times.Goals as goal

pub invariant_of-result : goal.invariant_of-result
invariant_of-result c =
    record {
      most =
          (product_is c.args.number c.args.self.places (to_z w32 (of_z w32 c.from.result)) (to_z w32 (of_z w32 c.args.self.places))
          (omega (arith, ints)) (omega (arith, ints)) c.requires c.args.self.most).2;
    }

pub returns : goal.returns
returns c =
    (product_is c.args.number c.args.self.places (to_z w32 (of_z w32 c.from.result)) (to_z w32 (of_z w32 c.args.self.places))
    (omega (arith, ints)) (omega (arith, ints)) c.requires c.args.self.most).1
