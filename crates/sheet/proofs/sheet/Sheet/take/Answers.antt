use Rattle.std.proofs.Common.{◌≡◌, None, arith, rules}
use Rattle.std.proofs.lemmas.Result.{err_from_is_err_and}
use Rattle.std.proofs.lemmas.Option.{MatchOption-at_some, MatchOption-at_none}
use Rattle.domain.specs.declared.refusal.Refusal.TheVariants.{RollEmpty}
use Rattle.paving.specs.declared.turns.Turn.TheVariants.{Take}
use Rattle.sheet.proofs.Counting.{taken_fits, take_refused, take_does}
use Rattle.sheet.proofs.Turning.{made_on, turned}
use Rattle.sheet.proofs.sheet.Sheet.take.Goals as goal

pub invariant_of-self : goal.invariant_of-self
invariant_of-self g c =
    let s = c.args.self.now in
    let l = g.met.C.Piece.Domain.lawful in
    let sound = g.met.C.Contractor.sound in
    let none : c.take.result ≡ None = search rules in
    let left = MatchOption-at_none _ _ none c.take.ensures in
    record { made = made_on l sound s Take _ _ (take_refused l sound s c.take.new.self left.0 left.1) }

pub returns-in_err-record : goal.returns-in_err-record
returns-in_err-record g c =
    let s = c.args.self.now in
    let l = g.met.C.Piece.Domain.lawful in
    let sound = g.met.C.Contractor.sound in
    let none : c.take.result ≡ None = search rules in
    let left = MatchOption-at_none _ _ none c.take.ensures in
    let p = err_from_is_err_and c.from_residual.result c.from_residual.ensures.1 in
    let e : c.in_err-record.field-0.0 ≡ RollEmpty = search rules in
    rw (p.1, p.2, e) (turned l sound s Take _ _ (take_refused l sound s c.take.new.self left.0 left.1) _)

pub add_points-requires : goal.add_points-requires
add_points-requires g c =
    omega (arith, c.count.ensures, taken_fits g.met.C.Piece.Domain.lawful g.met.C.Contractor.sound c.args.self.now c.in_ok-record.record _ (MatchOption-at_some _ _ c.in_ok-record.record c.in_ok-record.ensures.ok_part c.take.ensures))

pub invariant_of-self-2 : goal.invariant_of-self-2
invariant_of-self-2 g c =
    let s = c.args.self.now in
    let l = g.met.C.Piece.Domain.lawful in
    let sound = g.met.C.Contractor.sound in
    let left = MatchOption-at_some _ _ c.in_ok-record.record c.in_ok-record.ensures.ok_part c.take.ensures in
    record { made = made_on l sound s Take _ _ (take_does l sound s c.in_ok-record.record c.take.new.self c.add_points.new.points c.count.result left c.add_points.ensures c.count.ensures) }

pub returns : goal.returns
returns g c =
    let s = c.args.self.now in
    let l = g.met.C.Piece.Domain.lawful in
    let sound = g.met.C.Contractor.sound in
    let left = MatchOption-at_some _ _ c.in_ok-record.record c.in_ok-record.ensures.ok_part c.take.ensures in
    turned l sound s Take _ _ (take_does l sound s c.in_ok-record.record c.take.new.self c.add_points.new.points c.count.result left c.add_points.ensures c.count.ensures) _
