use Rattle.std.proofs.Common.{Ok, Err}
use Rattle.std.proofs.lemmas.Result.{err_from_is_err_and}
use Rattle.std.proofs.lemmas.Option.{MatchOption-at_some}
use Rattle.domain.specs.Refusals.{code}
use Rattle.leaves.specs.declared.plane_reading.PlaneReading.TheVariants.{Ring as OfRing}
use Rattle.readings.specs.Sorts.{RingValue}
use Rattle.readings.proofs.Making.{read_as}
use Rattle.readings.proofs.PlaneReadings.{ring_ok, ring_err}
use Rattle.readings.proofs.rings.ring_value.Goals as goal

pub returns : goal.returns
returns c =
    rw c.from.ensures
    (read_as 4 RingValue c.args.value.now c.in_ok-bx.field-0 (MatchOption-at_some _ _ c.in_ok-bx.field-0 c.in_ok-bx.ensures.ok_part c.numbers.ensures) (Ok (OfRing c.in_ok-new.field-0))
    (ring_ok _ _ _ _ c.in_ok-new.field-0 c.in_ok-new.ensures))

pub returns-in_err-new : goal.returns-in_err-new
returns-in_err-new c =
    let p = err_from_is_err_and c.from_residual-in_err-new.result c.from_residual-in_err-new.ensures.1 in
    rw (p.1, p.2)
    (read_as 4 RingValue c.args.value.now c.in_ok-bx.field-0 (MatchOption-at_some _ _ c.in_ok-bx.field-0 c.in_ok-bx.ensures.ok_part c.numbers.ensures) (Err (code c.in_err-new.field-0.0))
    (ring_err _ _ _ _ c.in_err-new.field-0.0 c.in_err-new.ensures))
