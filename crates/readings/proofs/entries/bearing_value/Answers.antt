use Rattle.std.proofs.Common.{Ok, sym, subst}
use Rattle.std.proofs.lemmas.Result.{err_from_is_err_and}
use Rattle.domain.specs.Refusals.{code}
use Rattle.dial.specs.declared.arc.Arc.{Arc}
use Rattle.readings.specs.Sorts.{BearingValue}
use Rattle.readings.proofs.Making.{bearing_ok, bearing_err}
use Rattle.readings.proofs.entries.bearing_value.Goals as goal

pub returns : goal.returns
returns c =
    subst (λ (a : Arc). BearingValue c.args.value.now (Ok (record { arc = a }))) (sym c.from.ensures)
    (bearing_ok c.args.value.now c.in_ok-arc_value.field-0 c.in_ok-arc_value.ensures)

pub returns-in_err-arc_value : goal.returns-in_err-arc_value
returns-in_err-arc_value c =
    let p = err_from_is_err_and c.from_residual.result c.from_residual.ensures.1 in
    rw (p.1, p.2) (bearing_err c.args.value.now (code c.in_err-arc_value.field-0.0) c.in_err-arc_value.ensures)
