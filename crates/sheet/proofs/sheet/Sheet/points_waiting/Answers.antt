use Rattle.std.proofs.Common.{sym, ap, ◌∙◌, arith, rules}
use Rattle.std.proofs.lemmas.Iterator.{YieldsList-from_slice, YieldsList-from_map}
use Rattle.std.proofs.lemmas.Iterator.Consumers.{YieldsList-at, sum_by_from_yields_List, fits_by_from_yields_list}
use borrow.Author.Tests.{tests}
use Rattle.domain.specs.Maps.{total}
use Rattle.sheet.proofs.Counting.{total_reverse, waiting_fits}
use Rattle.sheet.proofs.sheet.Sheet.points_waiting.Goals as goal

pub sum-requires-clause-fits : goal.sum-requires-clause-fits
sum-requires-clause-fits g c =
    let d = g.C.Piece.Domain.maps in
    let ps = c.pieces-pieces.result.now in
    let few = waiting_fits g.met.C.Piece.Domain.lawful g.met.C.Contractor.sound c.args.self.now in
    fits_by_from_yields_list d.count ps c.map.result _ (YieldsList-from_map _ d.count (YieldsList-at c.map.ensures.source (YieldsList-from_slice ps (cc))) c.map.ensures.closure (λ x r q k. search (rules, tests)))
    (omega (arith, few, total_reverse d ps, ap (total d) c.pieces-pieces.ensures))

pub returns : goal.returns
returns g c =
    let d = g.C.Piece.Domain.maps in
    let ps = c.pieces-pieces.result.now in
    sum_by_from_yields_List d.count ps c.map.result c.sum.result c.sum.ensures.ran (YieldsList-from_map _ d.count (YieldsList-at c.map.ensures.source (YieldsList-from_slice ps (cc))) c.map.ensures.closure (λ x r q k. search (rules, tests)))
    ∙ sym (total_reverse d ps) ∙ ap (total d) c.pieces-pieces.ensures
