use Rattle.numerals.proofs.Tuples.{six_listed}
use Rattle.numerals.proofs.values.six_numbers.Goals as goal

pub returns : goal.returns
returns c = six_listed c.args.text.now c.in_ok-first.field-0 c.in_ok-first.ensures
