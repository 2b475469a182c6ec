use Rattle.layers.proofs.Turning.{Turns}
use Rattle.layers.proofs.fixed.settled.Given as goal

abbrev pub invariant-loop-next : goal.invariant-loop-next
invariant-loop-next g l = Turns g.D.Domain.maps (goal.F-post g l.call) l.fn.piece l.rest

abbrev pub decreases-loop-next : goal.decreases-loop-next
decreases-loop-next g l = g.D.Domain.maps.count l.rest
