use Rattle.std.proofs.Common.{◌-◌, ◌*◌, string_bytes}
use Rattle.contractor.specs.Means.{means}
use Rattle.sheet.specs.Standing.{SameTask}
use Rattle.listing.specs.Progress.{Clear}
use Rattle.listing.proofs.rounds.pave.Given as goal

abbrev pub invariant-loop-ran : goal.invariant-loop-ran
invariant-loop-ran g l = SameTask g.P.Domain.maps (means g.C.Contractor) l.initial.sheet l.sheet × Clear g.P.Domain.maps (means g.C.Contractor) g.P.Display.output l.sheet (string_bytes l.text)

-- the steps that are left
abbrev pub decreases-loop-ran : goal.decreases-loop-ran
decreases-loop-ran g l = 2 * g.P.Domain.maps.count l.sheet.start - l.sheet.store.steps
