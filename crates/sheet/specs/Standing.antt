-- When a sheet stands after a list of turns, and what a turn then does.
use Rattle.std.specs.Prelude.{◌≡◌, ℕ, List, [], ◌∷◌, ◌++◌, Ok, Err, Result}
use Rattle.domain.specs.Maps.{Maps}
use Rattle.domain.specs.declared.refusal.Refusal.{Refusal}
use Rattle.domain.specs.declared.domain.Domain
use Rattle.contractor.specs.Meaning.{Meaning}
use Rattle.contractor.specs.declared.contractor.Contractor
use Rattle.paving.specs.Laws.{SheetLaws}
use Rattle.paving.specs.Sheet.{Task, task}
use Rattle.paving.specs.Turns.{turn, after_turns}
use Rattle.paving.specs.declared.answers.Answer.{Answer}
use Rattle.paving.specs.declared.answers.Answer.TheVariants.{Stepped, Taken as Took, Refused}
use Rattle.paving.specs.declared.records.Record.{Record}
use Rattle.paving.specs.declared.turns.Turn.{Turn}
pub use Rattle.sheet.specs.Shown.{Shows}
use Rattle.sheet.specs.declared.grain.Grain.{Grain}
use Rattle.sheet.specs.declared.sheet.Sheet.{Sheet}

module _ {C P : Type 0} {g : Contractor.Ghosts C P} {e : Domain.Ghosts P} (d : Maps P) (m : C → Meaning P) where
  -- the task of a sheet: its contractor's two maps, its start, its grain
  abbrev pub task_of : Sheet C P g e → Task P
  task_of s = task d (m s.contractor) s.start s.grain.size

  -- the sheet is what opening and these turns make
  abbrev pub StandsAfter : List Turn → Sheet C P g e → Type 0
  StandsAfter us s = Shows (task_of s) s.store (after_turns (task_of s) us)

  -- One turn more: it is answered as defined, the sheet stands after it too, and all laws hold there.
  pub record Played (us : List Turn) (u : Turn) (s : Sheet C P g e) (a : Answer P) (after : Sheet C P g e) : Type 0 where
    pub value : a ≡ (turn (task_of s) u (after_turns (task_of s) us)).value
    pub stands : StandsAfter (us ++ u ∷ []) after
    pub laws : SheetLaws (task_of s) (m s.contractor).set (us ++ u ∷ [])

  -- contractor, start and grain are the same
  pub record SameTask (s after : Sheet C P g e) : Type 0 where
    pub contractor : after.contractor ≡ s.contractor
    pub start : after.start ≡ s.start
    pub grain : after.grain ≡ s.grain

  -- What a call that is a turn does, whatever turns made the sheet.
  pub record Turned (u : Turn) (s : Sheet C P g e) (a : Answer P) (after : Sheet C P g e) : Type 0 where
    pub same : SameTask s after
    pub played : (us : List Turn) → StandsAfter us s → Played us u s a after

-- The sheet is one of this contractor, start and grain, and stands after these turns.
pub record SheetOf {C P : Type 0} {g : Contractor.Ghosts C P} {e : Domain.Ghosts P} (d : Maps P) (m : C → Meaning P) (c : C) (start : P) (grain : Grain) (us : List Turn) (s : Sheet C P g e) : Type 0 where
  pub made : task_of d m s ≡ task d (m c) start grain.size
  pub stands : StandsAfter d m us s

-- what a call that may refuse answers
abbrev pub step_answer : {P : Type 0} → Result ℕ Refusal → Answer P
step_answer (Ok n) = Stepped n
step_answer (Err e) = Refused e

abbrev pub take_answer : {P : Type 0} → Result (Record P) Refusal → Answer P
take_answer (Ok r) = Took r
take_answer (Err e) = Refused e
