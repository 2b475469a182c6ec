use Rattle.std.proofs.Common.{ap, ◌∙◌, rules}
use Rattle.std.proofs.lemmas.Iterator.Adapters.{YieldsList-from_rev_slice}
use Rattle.std.proofs.lemmas.Iterator.Search.{any_from_yields_List}
use borrow.Author.Tests.{tests}
use Rattle.paving.specs.Turns.{held}
use Rattle.contractor.specs.Means.{means}
use Rattle.sheet.specs.Standing.{task_of}
use Rattle.sheet.proofs.Searching.{held_any}
use Rattle.sheet.proofs.sheet.Sheet.waits.Goals as goal

pub returns : goal.returns
returns g c =
    let t = task_of g.C.Piece.Domain.maps (means g.C.Contractor) c.args.self.now in
    any_from_yields_List (λ p. t.maps.holds p c.args.point) _ _ _ c.any.ensures.ran (YieldsList-from_rev_slice c.pieces-pieces.result.now cc) (λ x b q k. search (rules, tests))
    ∙ held_any t c.args.point _ ∙ ap (held t c.args.point) c.pieces-pieces.ensures
