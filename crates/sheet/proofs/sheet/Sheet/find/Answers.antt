use Rattle.std.proofs.Common.{sym, ◌∙◌}
use Rattle.contractor.specs.Means.{means}
use Rattle.paving.specs.declared.turns.Turn.TheVariants.{Find}
use Rattle.sheet.specs.Standing.{task_of}
use Rattle.sheet.proofs.Searching.{find_no_point, find_waits, find_on_roll}
use Rattle.sheet.proofs.Turning.{turned}
use Rattle.sheet.proofs.sheet.Sheet.find.Goals as goal

pub returns-then-not-holds : goal.returns-then-not-holds
returns-then-not-holds g c =
    let s = c.args.self.now in
    let t = task_of g.C.Piece.Domain.maps (means g.C.Contractor) s in
    turned g.met.C.Piece.Domain.lawful g.met.C.Contractor.sound s (Find c.args.point) _ s.store
    (λ x k h. (find_no_point t c.args.point s.store x h (sym c.holds.ensures ∙ c.if-not-holds.true), h)) s.made

pub returns-then-waits : goal.returns-then-waits
returns-then-waits g c =
    let s = c.args.self.now in
    let t = task_of g.C.Piece.Domain.maps (means g.C.Contractor) s in
    turned g.met.C.Piece.Domain.lawful g.met.C.Contractor.sound s (Find c.args.point) _ s.store
    (λ x k h. (find_waits t c.args.point s.store x h (sym c.holds.ensures ∙ c.if-not-holds.false) (sym c.waits.ensures ∙ c.if-waits.true), h)) s.made

pub returns : goal.returns
returns g c =
    let s = c.args.self.now in
    let t = task_of g.C.Piece.Domain.maps (means g.C.Contractor) s in
    turned g.met.C.Piece.Domain.lawful g.met.C.Contractor.sound s (Find c.args.point) _ s.store
    (λ x k h. (find_on_roll t c.args.point s.store x h c.place_on_roll.result (sym c.holds.ensures ∙ c.if-not-holds.false) (sym c.waits.ensures ∙ c.if-waits.false) c.place_on_roll.ensures, h)) s.made
