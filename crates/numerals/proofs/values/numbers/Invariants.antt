use Rattle.numerals.proofs.Commas.{Midway}
use Rattle.numerals.proofs.values.numbers.Given as goal

abbrev pub invariant-loop-i : goal.invariant-loop-i
invariant-loop-i g l = Midway g.row.N l.i l.text l.numbers l.rest
