use Rattle.std.proofs.Common.{ap, ◌∙◌, rules}
use borrow.Author.Tests.{tests}
use Rattle.paving.specs.Turns.{place_on}
use Rattle.contractor.specs.Means.{means}
use Rattle.sheet.specs.Standing.{task_of}
use Rattle.sheet.proofs.Searching.{placed, placed_by, place_found, found_in_either}
use Rattle.sheet.proofs.sheet.Sheet.place_on_roll.Goals as goal

pub returns : goal.returns
returns g c =
    let t = task_of g.C.Piece.Domain.maps (means g.C.Contractor) c.args.self.now in
    placed_by c.or_else.result c.map_or.result c.map_or.ensures (λ e. e) (λ x q. search (rules, tests))
    ∙ ap placed (found_in_either (λ r. t.maps.holds r.piece c.args.point) c.as_slices.result.0.now c.as_slices.result.1.now c.holder.result c.or_else.result c.holder.ensures c.or_else.ensures (λ e. search (rules, tests)) (λ x q. search (rules, tests)))
    ∙ place_found t c.args.point _ ∙ ap (place_on t c.args.point) c.as_slices.ensures
