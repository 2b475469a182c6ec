use Rattle.std.proofs.lemmas.Result.{err_from_is_err_and}
use Rattle.domain.specs.Refusals.{code}
use Rattle.readings.specs.Lines.{numbered}
use Rattle.readings.specs.Sorts.{box_numbers}
use Rattle.readings.proofs.Making.{box_made, box_small, by_naturals, no_naturals}
use Rattle.readings.proofs.pieces.box_value.Goals as goal

pub returns : goal.returns
returns c =
    by_naturals 4 box_numbers c.args.value.now c.in_ok-x0.field-0 (numbered c.new.result) c.in_ok-x0.ensures (box_made _ _ _ _ c.new.result c.new.ensures.value)

pub returns-in_err-x0 : goal.returns-in_err-x0
returns-in_err-x0 c =
    let p = err_from_is_err_and c.from_residual.result c.from_residual.ensures.1 in
    rw (p.1, p.2) (no_naturals 4 box_numbers c.args.value.now box_small (code c.in_err-x0.field-0.0) c.in_err-x0.ensures)
