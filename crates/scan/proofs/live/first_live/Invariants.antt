use Rattle.scan.specs.Live.{Dead}
use Rattle.scan.proofs.live.first_live.Given as goal

abbrev pub invariant-loop-i : goal.invariant-loop-i
invariant-loop-i g l = Dead (g.L.Live.live l.test) l.initial.i l.i
