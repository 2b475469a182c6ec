-- How far a listing has come: a sheet, and the text beside it.
use Rattle.std.specs.Prelude.{◌≡◌, ℕ, List, [], Option}
use Rattle.domain.specs.declared.domain.Domain
use Rattle.contractor.specs.declared.contractor.Contractor
use Rattle.domain.specs.Maps.{Maps}
use Rattle.contractor.specs.Meaning.{Meaning}
use Rattle.paving.specs.Sheet.{task, roll, gone}
use Rattle.paving.specs.Turns.{after_turns}
use Rattle.paving.specs.declared.turns.Turn.{Turn}
use Rattle.sheet.specs.Piles.{waiting}
use Rattle.sheet.specs.Rolls.{rolled}
use Rattle.sheet.specs.Standing.{task_of, StandsAfter, SameTask, SheetOf}
use Rattle.sheet.specs.declared.grain.Grain.{Grain}
use Rattle.sheet.specs.declared.sheet.Sheet.{Sheet}
use Rattle.listing.specs.Lines.{Shown, records_text}

module _ {C P : Type 0} {g : Contractor.Ghosts C P} {e : Domain.Ghosts P} (d : Maps P) (m : C → Meaning P) (display : P → Option (List ℕ)) where
  -- The sheet stands after some turns, and the text is the lines of the records that they took.
  pub record Begun (s : Sheet C P g e) (text : List ℕ) : Type 0 where
    pub turns : List Turn
    pub stands : StandsAfter d m turns s
    pub lines : (shown : P → List ℕ) → Shown display shown → text ≡ records_text shown (gone (after_turns (task_of d m s) turns))

  -- The same, and the roll is empty: the lines of all records made are written.
  pub record Clear (s : Sheet C P g e) (text : List ℕ) : Type 0 where
    pub begun : Begun s text
    pub roll : rolled s.store.roll ≡ []

  -- All records were taken from the sheet and written, and nothing else was done.
  pub record Emptied (s after : Sheet C P g e) (text : List ℕ) : Type 0 where
    pub same : SameTask d m s after
    pub clear : Clear after text
    pub pile : waiting after.store.pile ≡ waiting s.store.pile
    pub steps : after.store.steps ≡ s.store.steps

  -- The sheet was run until nothing waits, and the lines of all records are written.
  pub record Paved (s after : Sheet C P g e) (text : List ℕ) : Type 0 where
    pub same : SameTask d m s after
    pub clear : Clear after text
    pub done : waiting after.store.pile ≡ []

module _ {C P : Type 0} {g : Contractor.Ghosts C P} {e : Domain.Ghosts P} (d : Maps P) (m : C → Meaning P) where
  -- The sheet is one of this contractor, start and grain; nothing waits on it, and all records were taken.
  pub record Finished (c : C) (start : P) (grain : Grain) (s : Sheet C P g e) : Type 0 where
    pub turns : List Turn
    pub sheet : SheetOf d m c start grain turns s
    pub done : (after_turns (task d (m c) start grain.size) turns).waiting ≡ []
    pub all_taken : roll (after_turns (task d (m c) start grain.size) turns) ≡ []
