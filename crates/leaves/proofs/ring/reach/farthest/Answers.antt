use Rattle.std.proofs.Common.{max, ap, ap₂, ◌∙◌, refl, arith, w16, to_z, of_z}
use Rattle.std.proofs.lemmas.Int.{ints}
use Rattle.plane.specs.Spans.{stretch}
use Rattle.leaves.specs.Distances.{farthest_at}
use Rattle.leaves.specs.Rings.{square}
use Rattle.leaves.proofs.Offsets.{square_is, square_max}
use Rattle.leaves.proofs.ring.reach.farthest.Goals as goal

pub returns : goal.returns
returns c =
    let b = to_z w16 (of_z w16 c.args.beacon) in
    let low = c.square.ensures ∙ square_is c.args.beacon b c.args.span.low c.args.span.low c.of_ends.result.0.places c.of_ends.ensures.0 (omega (arith, ints)) refl in
    let high = c.square-2.ensures ∙ square_is c.args.beacon b c.args.span.high c.args.span.high c.of_ends.result.1.places c.of_ends.ensures.1 (omega (arith, ints)) refl in
    c.max.ensures ∙ ap₂ max low high ∙ square_max _ _ ∙ ap square (farthest_at c.args.beacon (stretch c.args.span) c.args.span.ordered)
