use Rattle.std.proofs.Common.{◌≡◌, None, length, ap, arith, rules}
use Rattle.std.proofs.lemmas.Option.{MatchOption-at_some, MatchOption-at_none}
use Rattle.std.proofs.lemmas.Result.{err_from_is_err_and}
use Rattle.domain.specs.declared.refusal.Refusal.TheVariants.{NothingWaiting}
use Rattle.paving.specs.declared.turns.Turn.TheVariants.{Step}
use Rattle.sheet.proofs.Piling.{waiting_length}
use Rattle.sheet.proofs.Showing.{slack_made, step_none, step_does}
use Rattle.sheet.proofs.Turning.{made_on, turned}
use Rattle.sheet.proofs.sheet.Sheet.step.Goals as goal

pub returns-in_err-piece : goal.returns-in_err-piece
returns-in_err-piece g c =
    let s = c.args.self.now in
    let l = g.met.C.Piece.Domain.lawful in
    let sound = g.met.C.Contractor.sound in
    let none : c.top.result ≡ None = search rules in
    let p = err_from_is_err_and c.from_residual.result c.from_residual.ensures.1 in
    let e : c.in_err-piece.field-0.0 ≡ NothingWaiting = search rules in
    rw (p.1, p.2, e) (turned l sound s Step _ s.store (step_none l sound s (MatchOption-at_none _ _ none c.top.ensures)) s.made)

pub record-requires : goal.record-requires
record-requires g c =
    let s = c.args.self.now in
    let top = MatchOption-at_some _ _ c.in_ok-piece.piece c.in_ok-piece.ensures.ok_part c.top.ensures in
    (search rules, (omega (arith, waiting_length s.store.pile, ap length top.1), slack_made g.met.C.Piece.Domain.lawful g.met.C.Contractor.sound s))

pub invariant_of-self : goal.invariant_of-self
invariant_of-self g c =
    let s = c.args.self.now in
    let l = g.met.C.Piece.Domain.lawful in
    let sound = g.met.C.Contractor.sound in
    let top = MatchOption-at_some _ _ c.in_ok-piece.piece c.in_ok-piece.ensures.ok_part c.top.ensures in
    record { made = made_on l sound s Step _ c.record.new.self (step_does l sound s c.in_ok-piece.piece top.0 top.1 _ c.in_default.ensures c.away.result c.away.ensures c.record.result c.record.new.self c.record.ensures) }

pub returns-in_default : goal.returns-in_default
returns-in_default g c =
    let s = c.args.self.now in
    let l = g.met.C.Piece.Domain.lawful in
    let sound = g.met.C.Contractor.sound in
    let top = MatchOption-at_some _ _ c.in_ok-piece.piece c.in_ok-piece.ensures.ok_part c.top.ensures in
    turned l sound s Step _ c.record.new.self (step_does l sound s c.in_ok-piece.piece top.0 top.1 _ c.in_default.ensures c.away.result c.away.ensures c.record.result c.record.new.self c.record.ensures) _

pub record-requires-2 : goal.record-requires-2
record-requires-2 g c =
    let s = c.args.self.now in
    let top = MatchOption-at_some _ _ c.in_ok-piece.piece c.in_ok-piece.ensures.ok_part c.top.ensures in
    (search rules, (omega (arith, waiting_length s.store.pile, ap length top.1), slack_made g.met.C.Piece.Domain.lawful g.met.C.Contractor.sound s))

pub invariant_of-self-2 : goal.invariant_of-self-2
invariant_of-self-2 g c =
    let s = c.args.self.now in
    let l = g.met.C.Piece.Domain.lawful in
    let sound = g.met.C.Contractor.sound in
    let top = MatchOption-at_some _ _ c.in_ok-piece.piece c.in_ok-piece.ensures.ok_part c.top.ensures in
    record { made = made_on l sound s Step _ c.record-2.new.self (step_does l sound s c.in_ok-piece.piece top.0 top.1 _ c.in-Some.ensures c.cut-cut.result c.cut-cut.ensures c.record-2.result c.record-2.new.self c.record-2.ensures) }

pub returns : goal.returns
returns g c =
    let s = c.args.self.now in
    let l = g.met.C.Piece.Domain.lawful in
    let sound = g.met.C.Contractor.sound in
    let top = MatchOption-at_some _ _ c.in_ok-piece.piece c.in_ok-piece.ensures.ok_part c.top.ensures in
    turned l sound s Step _ c.record-2.new.self (step_does l sound s c.in_ok-piece.piece top.0 top.1 _ c.in-Some.ensures c.cut-cut.result c.cut-cut.ensures c.record-2.result c.record-2.new.self c.record-2.ensures) _
