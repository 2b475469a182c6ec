use Rattle.std.proofs.Common.{Ok, Err}
use Rattle.std.proofs.lemmas.Result.{err_from_is_err_and}
use Rattle.std.proofs.lemmas.Option.{MatchOption-at_some}
use Rattle.domain.specs.Refusals.{code}
use Rattle.leaves.specs.declared.plane_reading.PlaneReading.TheVariants.{Cone as OfCone}
use Rattle.readings.specs.Sorts.{ConeValue}
use Rattle.readings.proofs.Making.{read_as}
use Rattle.readings.proofs.PlaneReadings.{cone_ok, cone_err}
use Rattle.readings.proofs.rings.cone_value.Goals as goal

pub returns : goal.returns
returns c =
    rw c.from.ensures
    (read_as 6 ConeValue c.args.value.now c.in_ok-bx.field-0 (MatchOption-at_some _ _ c.in_ok-bx.field-0 c.in_ok-bx.ensures.ok_part c.numbers.ensures) (Ok (OfCone c.in_ok-new.field-0))
    (cone_ok _ _ _ _ _ _ c.in_ok-new.field-0 c.in_ok-new.ensures))

pub returns-in_err-new : goal.returns-in_err-new
returns-in_err-new c =
    let p = err_from_is_err_and c.from_residual-in_err-new.result c.from_residual-in_err-new.ensures.1 in
    rw (p.1, p.2)
    (read_as 6 ConeValue c.args.value.now c.in_ok-bx.field-0 (MatchOption-at_some _ _ c.in_ok-bx.field-0 c.in_ok-bx.ensures.ok_part c.numbers.ensures) (Err (code c.in_err-new.field-0.0))
    (cone_err _ _ _ _ _ _ c.in_err-new.field-0.0 c.in_err-new.ensures))
