use Rattle.layers.proofs.Filling.{Filled}
use Rattle.layers.proofs.relaxed.answers.gathered.Given as goal

abbrev pub invariant-loop-member : goal.invariant-loop-member
invariant-loop-member g l =
    Filled g.D.Domain.maps l.piece l.members (goal.F-post g l.answer) l.member l.filled l.numbers
