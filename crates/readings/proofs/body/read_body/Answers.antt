use Rattle.std.proofs.Common.{Ok, Err, sym, refl, arith}
use Rattle.std.proofs.lemmas.Result.{err_from_is_err_and}
use Rattle.readings.specs.Requests.{entered, fault_of}
use Rattle.readings.specs.Sorts.{StartLine}
use Rattle.readings.proofs.Bodies.{too_many, few_enough, length_entered}
use Rattle.readings.proofs.Chains.{stopped_at, passed_at}
use Rattle.readings.proofs.body.read_body.Goals as goal

pub returns-in_err-start : goal.returns-in_err-start
returns-in_err-start g c =
    let p = err_from_is_err_and c.from_residual.result c.from_residual.ensures.1 in
    rw (p.1, p.2)
    (stopped_at (StartLine g.R.Entry.starts) 4 _ c.args.rest.now _ _ _ c.start_line.result c.in_err-start.field-0.0 c.first_line.ensures c.start_line.ensures c.in_err-start.ensures)

pub returns-in_err-readings : goal.returns-in_err-readings
returns-in_err-readings g c =
    let p = err_from_is_err_and c.from_residual-in_err-readings.result c.from_residual-in_err-readings.ensures.1 in
    rw (p.1, p.2)
    (passed_at (StartLine g.R.Entry.starts) 4 _ c.args.rest.now _ _ _ c.start_line.result c.in_ok-start.start _ c.first_line.ensures c.start_line.ensures c.in_ok-start.ensures
    (Err (fault_of c.in_err-readings.field-0.0), c.in_err-readings.ensures, refl))

pub returns-then-from-readings : goal.returns-then-from-readings
returns-then-from-readings g c =
    let rs = c.in_ok-readings.readings in
    passed_at (StartLine g.R.Entry.starts) 4 _ c.args.rest.now _ _ _ c.start_line.result c.in_ok-start.start _ c.first_line.ensures c.start_line.ensures c.in_ok-start.ensures
    (Ok (entered rs), c.in_ok-readings.ensures, sym (too_many c.args.liars c.args.grain c.in_ok-start.start (entered rs) (omega (arith, length_entered rs, c.if-from-readings.true, c.from.ensures))))

pub returns : goal.returns
returns g c =
    let rs = c.in_ok-readings.readings in
    passed_at (StartLine g.R.Entry.starts) 4 _ c.args.rest.now _ _ _ c.start_line.result c.in_ok-start.start _ c.first_line.ensures c.start_line.ensures c.in_ok-start.ensures
    (Ok (entered rs), c.in_ok-readings.ensures, sym (few_enough c.args.liars c.args.grain c.in_ok-start.start (entered rs) (omega (arith, length_entered rs, c.if-from-readings.false, c.from.ensures))))
