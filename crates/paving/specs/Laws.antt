-- The laws of a sheet: what holds after every list of turns from an opening.
use Rattle.std.specs.Prelude.{◌≡◌, ℕ, suc, ◌+◌, ◌*◌, ◌<◌, ◌≤◌, Bool, true, false, ◌&&◌, ◌⊎◌, List, [], ◌∷◌, ◌++◌, length, Ok, Err, MatchOption, ◌≢◌, slice_index_or}
use Rattle.std.specs.Result as Results
use Rattle.std.specs.List.{AllByRecursion}
use Rattle.scan.specs.Count.{bit}
use Rattle.domain.specs.Maps.{Maps, Inside as Within, Parts, times, total}
use Rattle.domain.specs.Refusals.{Given, code}
use Rattle.domain.specs.declared.refusal.Refusal.{Refusal}
use Rattle.contractor.specs.Meaning.{Meaning}
use Rattle.contractor.specs.Rearranged.{Rearranged}
use Rattle.paving.specs.Sheet.{Task, task, State, Outcome, roll_places, roll, gone, free, pieces, of_class}
use Rattle.paving.specs.Steps.{step_entries, step}
use Rattle.paving.specs.Turns.{take_oldest, run, find, tally, turn, answers, after_turns}
use Rattle.paving.specs.declared.answers.Answer.{Answer}
use Rattle.paving.specs.declared.answers.Answer.TheVariants.{Stepped, Ran as RanFor, Taken as Took, Found, Tallied, Refused}
use Rattle.paving.specs.declared.answers.Ran.{Ran}
use Rattle.paving.specs.declared.classes.Class.{Class}
use Rattle.paving.specs.declared.classes.Class.TheVariants.{Inside as inside, Outside as outside, Undecided as undecided}
use Rattle.paving.specs.declared.places.Place.{Place}
use Rattle.paving.specs.declared.places.Place.TheVariants.{Waiting, Inside, Outside, Undecided, Taken}
use Rattle.paving.specs.declared.records.Record.{Record}
use Rattle.paving.specs.declared.tallies.Points.{Points}
use Rattle.paving.specs.declared.tallies.Tally.{Tally}
use Rattle.paving.specs.declared.turns.Turn.{Turn}

-- the pieces taken, on the roll and waiting
abbrev pub all_pieces : {P : Type 0} → State P → List P
all_pieces s = pieces (gone s) ++ (pieces (roll s) ++ s.waiting)

-- the points of a tally, added up
abbrev pub points_in : Points → ℕ
points_in p = p.inside + p.outside + p.undecided

abbrev pub points_told : Tally → ℕ
points_told y = points_in y.taken + points_in y.roll + y.waiting

-- the count of one class
abbrev pub points_at : Points → Class → ℕ
points_at p inside = p.inside
points_at p outside = p.outside
points_at p undecided = p.undecided

-- What a tally tells of a state.
pub record Counts {P : Type 0} (t : Task P) (s : State P) (y : Tally) : Type 0 where
  pub waiting_points : y.waiting ≡ total t.maps s.waiting
  pub roll_points : (c : Class) → points_at y.roll c ≡ total t.maps (of_class c (roll s))
  pub taken_points : (c : Class) → points_at y.taken c ≡ total t.maps (of_class c (gone s))
  pub accepted_steps : y.steps ≡ s.steps
  -- the label of the next record is how many there were
  pub next : y.next_label ≡ length s.made

-- the pieces among which a point of that place lies
abbrev pub lying : {P : Type 0} → State P → Place → List P
lying s Waiting = s.waiting
lying s Inside = of_class inside (roll s)
lying s Outside = of_class outside (roll s)
lying s Undecided = of_class undecided (roll s)
lying s Taken = pieces (gone s)

-- the point of number n lies in exactly one piece of that place
abbrev pub Lies : {P : Type 0} → Maps P → State P → ℕ → Place → Type 0
Lies d s n p = times d n (lying s p) ≡ 1

-- how many pieces of the five places hold the point of number n
abbrev pub times_lying : {P : Type 0} → Maps P → State P → ℕ → ℕ
times_lying d s n = times d n (lying s Waiting) + times d n (lying s Inside) + times d n (lying s Outside) + times d n (lying s Undecided) + times d n (lying s Taken)

-- The pieces taken, on the roll and waiting share out the start.
pub record Sum {P : Type 0} (t : Task P) (s : State P) : Type 0 where
  -- each is a sub-piece of the start
  pub within : Within t.maps t.start (all_pieces s)
  -- each point of the start lies in exactly one of them, and no other point in any
  pub shared : Parts t.maps t.start (all_pieces s)
  -- their points add up to the start's
  pub added : total t.maps (pieces (gone s)) + total t.maps (pieces (roll s)) + total t.maps s.waiting ≡ t.maps.count t.start
  -- tally gives these counts, and they add up to the start's
  pub tallied : Counts t s (tally t s)
  pub tally_added : points_told (tally t s) ≡ t.maps.count t.start
  -- find gives the one place where a point of the start lies, and refuses any other number with 14
  pub found : (n : ℕ) → Given (find t n s) 14 (t.maps.holds t.start n ≡ true) (Lies t.maps s n)
  -- in just one of the five places, and in just one piece there
  pub one_place : (n : ℕ) → times_lying t.maps s n ≡ bit (t.maps.holds t.start n)

-- every point of the piece is of the set
abbrev pub AllOf : {P : Type 0} → Maps P → (ℕ → Bool) → P → Type 0
AllOf d set p = (n : ℕ) → d.holds p n ≡ true → set n ≡ true

-- no point of the piece is of the set
abbrev pub NoneOf : {P : Type 0} → Maps P → (ℕ → Bool) → P → Type 0
NoneOf d set p = (n : ℕ) → d.holds p n ≡ true → set n ≡ false

-- more than one point, and no larger than the grain
abbrev pub Small : {P : Type 0} → Task P → P → Type 0
Small t p = (1 < t.maps.count p) × (t.maps.size p ≤ t.grain)

-- What records say is true of the set, whether they are on the roll or taken.
pub record Truth {P : Type 0} (t : Task P) (set : ℕ → Bool) (s : State P) : Type 0 where
  pub inside_all : AllByRecursion (AllOf t.maps set) (of_class inside s.made)
  pub outside_none : AllByRecursion (NoneOf t.maps set) (of_class outside s.made)
  pub undecided_small : AllByRecursion (Small t) (of_class undecided s.made)
  pub decided : t.grain ≡ 1 → of_class undecided s.made ≡ []
  -- at grain 1 with nothing waiting, the inside pieces hold exactly the start's points of the set
  pub exact : t.grain ≡ 1 → s.waiting ≡ [] → (n : ℕ) → times t.maps n (of_class inside s.made) ≡ bit (t.maps.holds t.start n && set n)

-- How far a sheet can go.
pub record Limits {P : Type 0} (t : Task P) (s : State P) : Type 0 where
  -- for a start of c points, at most 2c - 1 accepted steps
  pub few_steps : s.steps + 1 ≤ 2 * t.maps.count t.start
  pub few_waiting : length s.waiting ≤ 25
  pub few_records : (x : P) → length (step_entries t x) ≤ 9
  -- there are no more records than these steps made
  pub few_made : length s.made ≤ 9 * s.steps
  pub fits_roll : length (roll s) ≤ roll_places
  -- a record's label is its place among all that were made
  pub labels : (k : ℕ) (r : Record P) → k < length s.made → (slice_index_or s.made k r).label ≡ k

-- the records that answers gave
abbrev pub takes : {P : Type 0} → List (Answer P) → List (Record P)
takes [] = []
takes (Stepped n ∷ rest) = takes rest
takes (RanFor r ∷ rest) = takes rest
takes (Took r ∷ rest) = r ∷ takes rest
takes (Found p ∷ rest) = takes rest
takes (Tallied y ∷ rest) = takes rest
takes (Refused e ∷ rest) = takes rest

-- the steps that answers tell of, those in runs too
abbrev pub accepted : {P : Type 0} → List (Answer P) → ℕ
accepted [] = 0
accepted (Stepped n ∷ rest) = 1 + accepted rest
accepted (RanFor r ∷ rest) = r.accepted + accepted rest
accepted (Took r ∷ rest) = accepted rest
accepted (Found p ∷ rest) = accepted rest
accepted (Tallied y ∷ rest) = accepted rest
accepted (Refused e ∷ rest) = accepted rest

-- What a sheet knows of its turns is what their answers said.
pub record History {P : Type 0} (t : Task P) (us : List Turn) : Type 0 where
  pub taken_given : gone (after_turns t us) ≡ takes (answers t us)
  pub steps_told : (after_turns t us).steps ≡ accepted (answers t us)

-- the next step has a piece to take, and places for its records
abbrev pub Room : {P : Type 0} → Task P → State P → List P → Type 0
Room t s [] = ⊥
Room t s (x ∷ xs) = length (step_entries t x) ≤ free s

-- it has a piece to take, and too few places
abbrev pub Crowded : {P : Type 0} → Task P → State P → List P → Type 0
Crowded t s [] = ⊥
Crowded t s (x ∷ xs) = free s < length (step_entries t x)

-- so many accepted steps lead from one state to another
pub data Accepts {P : Type 0} (t : Task P) : ℕ → State P → State P → Type 0 where
  none : {s : State P} → Accepts t 0 s s
  more : {n : ℕ} {s u : State P} (r : Outcome ℕ P) → step t s ≡ Ok r → Accepts t n r.after u → Accepts t (suc n) s u

-- a run of m: steps until m are accepted, or one is refused
pub record Runs {P : Type 0} (t : Task P) (m : ℕ) (s : State P) (r : Outcome Ran P) : Type 0 where
  pub accepts : Accepts t r.value.accepted s r.after
  pub stops : MatchOption r.value.refusal (r.value.accepted ≡ m) (λ e. (r.value.accepted < m) × (step t r.after ≡ Err e))

-- Each refusal has its one cause, and changes nothing. A run is never refused.
pub record Causes {P : Type 0} (t : Task P) (s : State P) : Type 0 where
  pub step_by : Results.MatchResult (step t s) (λ _. Room t s s.waiting) (λ e. ((code e ≡ 11) × (s.waiting ≡ [])) ⊎ ((code e ≡ 12) × Crowded t s s.waiting))
  pub take_by : Given (take_oldest s) 13 (roll s ≢ []) (λ r. (rs : List (Record P)) × (roll s ≡ r.value ∷ rs))
  pub run_by : (m : ℕ) → Runs t m s (run t m s)
  pub unchanged : (u : Turn) (e : Refusal) → (turn t u s).value ≡ Refused e → (turn t u s).after ≡ s

-- All of them, after a list of turns.
pub record SheetLaws {P : Type 0} (t : Task P) (set : ℕ → Bool) (us : List Turn) : Type 0 where
  pub sum : Sum t (after_turns t us)
  pub truth : Truth t set (after_turns t us)
  pub limits : Limits t (after_turns t us)
  pub causes : Causes t (after_turns t us)
  pub history : History t us

-- Sheets of one start and grain over rearranged contractors answer every list of turns alike.
abbrev pub Order : {P : Type 0} → Maps P → Meaning P → P → ℕ → Type 0
Order {P} d m start grain = (b : Meaning P) → Rearranged d m b → (us : List Turn) → answers (task d m start grain) us ≡ answers (task d b start grain) us

-- The laws of every sheet over a contractor that means m, from one start: whatever its grain and its turns.
pub record PavingLaws {P : Type 0} (d : Maps P) (m : Meaning P) (start : P) : Type 0 where
  pub stands : (grain : ℕ) (us : List Turn) → SheetLaws (task d m start grain) m.set us
  pub order : (grain : ℕ) → Order d m start grain
