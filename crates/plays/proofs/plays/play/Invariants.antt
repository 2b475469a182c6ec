use Rattle.contractor.specs.Means.{means}
use Rattle.sheet.specs.Standing.{task_of}
use Rattle.plays.proofs.Gaming.{Midway}
use Rattle.plays.proofs.plays.play.Given as goal

abbrev pub invariant-loop-i : goal.invariant-loop-i
invariant-loop-i g l =
    let d = g.C.Piece.Domain.maps in
    let m = means g.C.Contractor in
    Midway d m (task_of d m l.initial.sheet) l.turns l.i l.sheet l.answers
