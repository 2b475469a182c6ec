use Rattle.std.proofs.Common.{◌≡◌, map}
use Rattle.contractor.specs.Means.{means}
use Rattle.paving.specs.Turns.{points_of}
use Rattle.sheet.specs.Standing.{task_of}
use Rattle.sheet.proofs.sheet.Sheet.points_on_roll.Given as goal

-- the points of the records that were passed
abbrev pub invariant-loop-record : goal.invariant-loop-record
invariant-loop-record g l = l.points ≡ points_of (task_of g.C.Piece.Domain.maps (means g.C.Contractor) l.self) (map (λ r. r.now) l.yielded)
