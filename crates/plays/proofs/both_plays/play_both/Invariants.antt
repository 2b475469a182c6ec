use Rattle.contractor.specs.Means.{means}
use Rattle.sheet.specs.Standing.{task_of}
use Rattle.plays.proofs.Gaming.{Halfway, Alike}
use Rattle.plays.proofs.both_plays.play_both.Given as goal

abbrev pub invariant-loop-turn : goal.invariant-loop-turn
invariant-loop-turn g l =
    let d = g.A.Piece.Domain.maps in
    let t = task_of d (means g.A.Contractor) l.initial.first in
    let q = task_of d (means g.B.Contractor) l.initial.second in
    record {
      one : Halfway d (means g.A.Contractor) t l.turns l.turn-index l.first;
      other : Halfway d (means g.B.Contractor) q l.turns l.turn-index l.second;
      alike : Alike t q l.turns l.turn-index l.alike;
    }
