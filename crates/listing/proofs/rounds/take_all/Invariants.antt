use Rattle.std.proofs.Common.{length, string_bytes}
use Rattle.sheet.specs.Rolls.{rolled}
use Rattle.contractor.specs.Means.{means}
use Rattle.listing.proofs.Turns.{Emptying}
use Rattle.listing.proofs.rounds.take_all.Given as goal

abbrev pub invariant-loop-record : goal.invariant-loop-record
invariant-loop-record g l = Emptying g.P.Domain.maps (means g.C.Contractor) g.P.Display.output l.initial.sheet l.sheet (string_bytes l.text)

abbrev pub decreases-loop-record : goal.decreases-loop-record
decreases-loop-record g l = length (rolled l.sheet.store.roll)
