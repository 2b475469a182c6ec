use Rattle.contractor.specs.Means.{means}
use Rattle.sheet.proofs.Striding.{Strode}
use Rattle.sheet.proofs.sheet.Sheet.run.Given as goal

-- each turn of the loop before this one was an accepted step
abbrev pub invariant-loop-accepted : goal.invariant-loop-accepted
invariant-loop-accepted g l = Strode g.C.Piece.Domain.maps (means g.C.Contractor) l.initial.self l.accepted l.self
