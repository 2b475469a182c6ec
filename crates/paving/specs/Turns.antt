-- What each turn answers, and the state it leaves; and lists of turns.
use Rattle.std.specs.Prelude.{ℕ, zero, suc, Bool, true, false, ◌||◌, List, [], ◌∷◌, length, Some, None, Ok, Err, Result}
use Rattle.domain.specs.Maps.{total}
use Rattle.domain.specs.declared.refusal.Refusal.{Refusal}
use Rattle.domain.specs.declared.refusal.Refusal.TheVariants.{RollEmpty, NotAPoint}
use Rattle.paving.specs.Sheet.{Task, State, Outcome, outcome, opening, roll, gone, of_class}
use Rattle.paving.specs.Steps.{step}
use Rattle.paving.specs.declared.answers.Answer.{Answer}
use Rattle.paving.specs.declared.answers.Answer.TheVariants.{Stepped, Ran as RanFor, Taken as Took, Found, Tallied, Refused}
use Rattle.paving.specs.declared.answers.Ran.{Ran}
use Rattle.paving.specs.declared.classes.Class.{Class}
use Rattle.paving.specs.declared.classes.Class.TheVariants.{Inside as inside, Outside as outside, Undecided as undecided}
use Rattle.paving.specs.declared.places.Place.{Place}
use Rattle.paving.specs.declared.places.Place.TheVariants.{Waiting, Inside, Outside, Undecided, Taken}
use Rattle.paving.specs.declared.records.Record.{Record}
use Rattle.paving.specs.declared.tallies.Points.{Points}
use Rattle.paving.specs.declared.tallies.Tally.{Tally}
use Rattle.paving.specs.declared.turns.Turn.{Turn}
use Rattle.paving.specs.declared.turns.Turn.TheVariants.{Step as StepTurn, Run, Take, Find, Tally as TallyTurn}

-- one accepted step more, in front
abbrev pub one_more : {P : Type 0} → Outcome Ran P → Outcome Ran P
one_more r = outcome (record { accepted = suc r.value.accepted; refusal = r.value.refusal }) r.after

-- one record more is taken
abbrev pub one_taken : {P : Type 0} → State P → State P
one_taken s = record { waiting = s.waiting; made = s.made; taken = suc s.taken; steps = s.steps }

abbrev pub take_from : {P : Type 0} → State P → List (Record P) → Result (Outcome (Record P) P) Refusal
take_from s [] = Err RollEmpty
take_from s (r ∷ rs) = Ok (outcome r (one_taken s))

abbrev pub take_oldest : {P : Type 0} → State P → Result (Outcome (Record P) P) Refusal
take_oldest s = take_from s (roll s)

-- where a point on the roll is, by the class of its record
abbrev pub place_of : Class → Place
place_of inside = Inside
place_of outside = Outside
place_of undecided = Undecided

-- a run's first step, and the rest of the run, if that is accepted
abbrev pub ran_on : {P : Type 0} → Result (Outcome ℕ P) Refusal → State P → (State P → Outcome Ran P) → Outcome Ran P
ran_on (Ok r) s rest = one_more (rest r.after)
ran_on (Err e) s rest = outcome (record { accepted = 0; refusal = Some e }) s

-- a turn that may be refused, and then changes nothing
abbrev pub answered : {A P : Type 0} → (A → Answer P) → Result (Outcome A P) Refusal → State P → Outcome (Answer P) P
answered f (Ok r) s = outcome (f r.value) r.after
answered f (Err e) s = outcome (Refused e) s

abbrev pub found : {P : Type 0} → Result Place Refusal → Answer P
found (Ok p) = Found p
found (Err e) = Refused e

module _ {P : Type 0} (t : Task P) where
  -- steps until so many are accepted, or one is refused
  unfoldable pub run : ℕ → State P → Outcome Ran P
  run zero s = outcome (record { accepted = 0; refusal = None }) s
  run (suc m) s = ran_on (step t s) s (run m)

  -- whether one of the listed pieces holds the point of number n
  abbrev pub held : ℕ → List P → Bool
  held n [] = false
  held n (p ∷ ps) = t.maps.holds p n || held n ps

  -- on the roll by class, or else taken
  abbrev pub place_on : ℕ → List (Record P) → Place
  place_on n [] = Taken
  place_on n (r ∷ rs) = elim (t.maps.holds r.piece n) [ true ↦ place_of r.class | false ↦ place_on n rs ]

  abbrev pub find : ℕ → State P → Result Place Refusal
  find n s = elim (t.maps.holds t.start n) [ true ↦ Ok (elim (held n s.waiting) [ true ↦ Waiting | false ↦ place_on n (roll s) ]) | false ↦ Err NotAPoint ]

  -- the points of records, by class
  abbrev pub points_of : List (Record P) → Points
  points_of rs = record { inside = total t.maps (of_class inside rs); outside = total t.maps (of_class outside rs); undecided = total t.maps (of_class undecided rs) }

  abbrev pub tally : State P → Tally
  tally s =
      record {
        waiting = total t.maps s.waiting;
        roll = points_of (roll s);
        taken = points_of (gone s);
        steps = s.steps;
        next_label = length s.made;
      }

  abbrev pub turn : Turn → State P → Outcome (Answer P) P
  turn StepTurn s = answered Stepped (step t s) s
  turn (Run m) s = outcome (RanFor (run m s).value) (run m s).after
  turn Take s = answered Took (take_oldest s) s
  turn (Find n) s = outcome (found (find n s)) s
  turn TallyTurn s = outcome (Tallied (tally s)) s

  -- the state that turns lead to, and what they answer
  abbrev pub left_by : List Turn → State P → State P
  left_by [] s = s
  left_by (u ∷ us) s = left_by us (turn u s).after

  abbrev pub answers_from : List Turn → State P → List (Answer P)
  answers_from [] s = []
  answers_from (u ∷ us) s = (turn u s).value ∷ answers_from us (turn u s).after

  -- the same from the opening
  abbrev pub after_turns : List Turn → State P
  after_turns us = left_by us (opening t)

  abbrev pub answers : List Turn → List (Answer P)
  answers us = answers_from us (opening t)
