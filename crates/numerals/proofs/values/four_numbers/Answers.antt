use Rattle.numerals.proofs.Tuples.{four_listed}
use Rattle.numerals.proofs.values.four_numbers.Goals as goal

pub returns : goal.returns
returns c = four_listed c.args.text.now c.in_ok-first.field-0 c.in_ok-first.ensures
