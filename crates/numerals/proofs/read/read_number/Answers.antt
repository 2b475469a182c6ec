use Rattle.std.proofs.Common.{◌-◌, length, take, drop, arith}
use Rattle.numerals.proofs.Signs.{after_minus, minus_first}
use Rattle.numerals.proofs.read.read_number.Goals as goal

pub returns-in-45 : goal.returns-in-45
returns-in-45 c =
    let text = c.args.text.now in
    after_minus text (take (length text - 1) (drop 1 text)) c.read_negative.result (minus_first text c.in-45.len_at_least (omega arith)) c.read_negative.ensures
