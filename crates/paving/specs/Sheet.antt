-- What a sheet is opened with, and the states that it goes through.
use Rattle.std.specs.Prelude.{ℕ, ◌-◌, List, [], ◌∷◌, map, length, take, drop, Option}
use Rattle.domain.specs.Maps.{Maps}
use Rattle.contractor.specs.Meaning.{Meaning}
use Rattle.paving.specs.declared.classes.Class.{Class}
use Rattle.paving.specs.declared.classes.Class.TheVariants.{Inside, Outside, Undecided}
use Rattle.paving.specs.declared.records.Record.{Record}

-- A task: the domain, the two maps of the contractor, the start, the grain. The contractor's set is no part of it.
pub record Task (P : Type 0) : Type 0 where
  pub maps : Maps P
  pub keep : P → Option P
  pub shed : P → Option P
  pub start : P
  pub grain : ℕ

abbrev pub task : {P : Type 0} → Maps P → Meaning P → P → ℕ → Task P
task d m start grain = record { maps = d; keep = m.keep; shed = m.shed; start = start; grain = grain }

pub record State (P : Type 0) : Type 0 where
  -- the pile, top first
  pub waiting : List P
  -- all records ever made, in label order
  pub made : List (Record P)
  -- how many of them were taken, the oldest first
  pub taken : ℕ
  -- accepted steps, those in runs too
  pub steps : ℕ

-- the start waits
abbrev pub opening : {P : Type 0} → Task P → State P
opening t = record { waiting = t.start ∷ []; made = []; taken = 0; steps = 0 }

-- the roll has so many
abbrev pub roll_places : ℕ
roll_places = 1024

abbrev pub roll : {P : Type 0} → State P → List (Record P)
roll s = drop s.taken s.made

-- the records that take gave
abbrev pub gone : {P : Type 0} → State P → List (Record P)
gone s = take s.taken s.made

abbrev pub free : {P : Type 0} → State P → ℕ
free s = roll_places - length (roll s)

abbrev pub pieces : {P : Type 0} → List (Record P) → List P
pieces rs = map (λ r. r.piece) rs

-- the piece in front of others where the first two are one class
abbrev pub put : {P : Type 0} → Class → Class → P → List P → List P
put Inside Inside p ps = p ∷ ps
put Inside Outside p ps = ps
put Inside Undecided p ps = ps
put Outside Inside p ps = ps
put Outside Outside p ps = p ∷ ps
put Outside Undecided p ps = ps
put Undecided Inside p ps = ps
put Undecided Outside p ps = ps
put Undecided Undecided p ps = p ∷ ps

-- the pieces of one class
abbrev pub of_class : {P : Type 0} → Class → List (Record P) → List P
of_class c [] = []
of_class c (r ∷ rs) = put c r.class r.piece (of_class c rs)

-- What a call gives, and the state it leaves.
pub record Outcome (A P : Type 0) : Type 0 where
  pub value : A
  pub after : State P

abbrev pub outcome : {A P : Type 0} → A → State P → Outcome A P
outcome a s = record { value = a; after = s }
