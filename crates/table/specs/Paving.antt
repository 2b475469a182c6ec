-- The dial paved by three arcs, of which one may be wrong, turn by turn.
use Rattle.std.specs.Prelude.{◌≡◌, ℕ, T, List, [], ◌∷◌, map, Some, nat_le, nat_lt}
use Rattle.std.proofs.Common.{lit<, lit≤}
use Rattle.domain.specs.declared.refusal.Refusal.TheVariants.{NothingWaiting, RollEmpty, NotAPoint}
use Rattle.contractor.specs.Layers.{relaxed}
use Rattle.contractor.specs.Meaning.{Meaning, meaning}
use Rattle.dial.specs.declared.arc.Arc.{Arc}
use Rattle.dial.specs.Arcs.{holds, dial}
use Rattle.leaves.specs.Arcs.{kept, dropped}
use Rattle.paving.specs.Sheet.{Task, task}
use Rattle.paving.specs.Turns.{answers}
use Rattle.paving.specs.declared.answers.Answer.{Answer}
use Rattle.paving.specs.declared.answers.Answer.TheVariants.{Stepped, Ran as RanFor, Taken as Took, Found, Tallied, Refused}
use Rattle.paving.specs.declared.classes.Class.TheVariants.{Inside as inside, Outside as outside}
use Rattle.paving.specs.declared.places.Place.TheVariants.{Waiting, Inside, Taken}
use Rattle.paving.specs.declared.tallies.Tally.{Tally}
use Rattle.paving.specs.declared.turns.Turn.{Turn}
use Rattle.paving.specs.declared.turns.Turn.TheVariants.{Step, Run, Take, Find, Tally as TallyTurn}

-- an arc whose numbers are written out
abbrev pub arc : (s n : ℕ) → T (nat_lt s 3600) → T (nat_lt 0 n) → T (nat_le n 3600) → Arc
arc s n p q r = record { start = s; len = n; placed = lit< p; some = lit< q; most = lit≤ r }

-- an arc as a reading
abbrev pub bearing : Arc → Meaning Arc
bearing a = meaning (holds a) (kept a) (dropped a)

abbrev pub bearings : List (Meaning Arc)
bearings = bearing (arc 10 5 tt tt tt) ∷ bearing (arc 12 5 tt tt tt) ∷ bearing (arc 100 5 tt tt tt) ∷ []

-- at most one of the three is wrong, and the whole dial is to be paved
abbrev pub worked_task : Task Arc
worked_task = task dial (relaxed dial 1 bearings) (arc 0 3600 tt tt tt) 1

abbrev pub worked_turns : List Turn
worked_turns =
    Take ∷ Find 13 ∷ Step ∷ Step ∷ Find 13 ∷ Take ∷ Take ∷ Take ∷ Take ∷ Find 13 ∷ Find 3600 ∷ Run 9 ∷ TallyTurn ∷ []

-- an answer with an arc's two numbers for the arc
abbrev pub plain : Answer Arc → Answer (ℕ × ℕ)
plain (Stepped n) = Stepped n
plain (RanFor r) = RanFor r
plain (Took r) = Took (record { label = r.label; class = r.class; piece = (r.piece.start, r.piece.len) })
plain (Found p) = Found p
plain (Tallied y) = Tallied y
plain (Refused e) = Refused e

abbrev pub worked_tally : Tally
worked_tally =
    record {
      waiting = 0;
      roll = record { inside = 0; outside = 0; undecided = 0 };
      taken = record { inside = 3; outside = 3597; undecided = 0 };
      steps = 1;
      next_label = 3;
    }

abbrev pub worked_answers : List (Answer (ℕ × ℕ))
worked_answers =
    Refused RollEmpty ∷ Found Waiting ∷ Stepped 3 ∷ Refused NothingWaiting ∷ Found Inside
    ∷ Took (record { label = 0; class = outside; piece = (0, 12) })
    ∷ Took (record { label = 1; class = outside; piece = (15, 3585) })
    ∷ Took (record { label = 2; class = inside; piece = (12, 3) })
    ∷ Refused RollEmpty ∷ Found Taken ∷ Refused NotAPoint
    ∷ RanFor (record { accepted = 0; refusal = Some NothingWaiting }) ∷ Tallied worked_tally ∷ []

abbrev pub Paved : Type 0
Paved = map plain (answers worked_task worked_turns) ≡ worked_answers
