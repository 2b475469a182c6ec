use Rattle.std.proofs.lemmas.Result.{err_from_is_err_and}
use Rattle.domain.specs.Refusals.{code}
use Rattle.readings.proofs.Bodies.{first_ok, first_err}
use Rattle.readings.proofs.Chains.{fault_is, faultless}
use Rattle.readings.proofs.body.read_readings.Goals as goal

pub returns-in_err-first : goal.returns-in_err-first
returns-in_err-first g c =
    let p = err_from_is_err_and c.from_residual.result c.from_residual.ensures.1 in
    let q = fault_is 5 c.reading.result c.in_err-first.field-0.0 c.in_err-first.ensures in
    rw (p.1, p.2, q.2) (first_err g.R.Entry.readings c.args.rest.now _ _ _ (code q.0) c.first_line.ensures (rw q.1 at c.reading.ensures))

pub returns : goal.returns
returns g c =
    let line = c.first_line.result.0 in
    first_ok g.R.Entry.readings c.args.rest.now _ _ _ c.in_ok-first.first _ c.first_line.ensures
    (faultless (g.R.Entry.readings line.text.now line.ended) 5 c.reading.result c.in_ok-first.first c.reading.ensures c.in_ok-first.ensures)
    c.more_readings.ensures
