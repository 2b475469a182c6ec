use Rattle.std.proofs.lemmas.Result.{err_from_is_err_and}
use Rattle.domain.specs.Refusals.{code}
use Rattle.readings.specs.Lines.{numbered}
use Rattle.readings.specs.Sorts.{arc_numbers}
use Rattle.readings.proofs.Making.{arc_made, arc_small, by_naturals, no_naturals}
use Rattle.readings.proofs.pieces.arc_value.Goals as goal

pub returns : goal.returns
returns c =
    by_naturals 2 arc_numbers c.args.value.now c.in_ok-start.field-0 (numbered c.new.result) c.in_ok-start.ensures (arc_made _ _ c.new.result c.new.ensures.value)

pub returns-in_err-start : goal.returns-in_err-start
returns-in_err-start c =
    let p = err_from_is_err_and c.from_residual.result c.from_residual.ensures.1 in
    rw (p.1, p.2) (no_naturals 2 arc_numbers c.args.value.now arc_small (code c.in_err-start.field-0.0) c.in_err-start.ensures)
