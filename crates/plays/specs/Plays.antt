-- What it is to play a list of turns.
use Rattle.std.specs.Prelude.{◌≡◌, ℕ, Bool, true, List, [], map, length, Some, Decides, Option, Result, MatchResult, ◌≢◌}
use Rattle.domain.specs.Maps.{Maps}
use Rattle.domain.specs.declared.domain.Domain
use Rattle.contractor.specs.Meaning.{Meaning}
use Rattle.contractor.specs.declared.contractor.Contractor
use Rattle.contractor.specs.Rearranged.{Rearranged}
use Rattle.paving.specs.Laws.{SheetLaws}
use Rattle.paving.specs.Sheet.{task}
use Rattle.paving.specs.Turns.{answers}
use Rattle.paving.specs.declared.answers.Answer.{Answer}
use Rattle.paving.specs.declared.turns.Turn.{Turn}
use Rattle.sheet.specs.Standing.{task_of, StandsAfter}
use Rattle.sheet.specs.declared.grain.Grain.{Grain}
use Rattle.sheet.specs.declared.sheet.Sheet.{Sheet}
use Rattle.plays.specs.Numbered.{numbers}
use Rattle.plays.specs.declared.lengths.LengthsDiffer.{LengthsDiffer}

-- What it is to play a list of turns over a contractor: s is the sheet, and r whether they were played.
pub record PlayedAll {C P : Type 0} {g : Contractor.Ghosts C P} {e : Domain.Ghosts P} (d : Maps P) (m : C → Meaning P) (c : C) (start : P) (grain : Grain) (us : List Turn) (before after : List (Option (Answer P))) (s : Sheet C P g e) (r : Result Unit LengthsDiffer) : Type 0 where
  -- it is a sheet of this contractor, start and grain
  pub made : task_of d m s ≡ task d (m c) start grain.size
  -- With a place for each answer, each is the defined one, and the sheet stands after the turns. Otherwise nothing is played.
  pub value :
      MatchResult r (λ _. (length us ≡ length before) × (after ≡ map Some (answers (task d (m c) start grain.size) us)) × StandsAfter d m us s)
      (λ _. (length us ≢ length before) × (after ≡ before) × StandsAfter d m [] s)
  -- the laws of the sheet, after these turns
  pub laws : SheetLaws (task d (m c) start grain.size) (m c).set us
  -- over every rearranged contractor the answers are the same
  pub order : (b : Meaning P) → Rearranged d (m c) b → answers (task d (m c) start grain.size) us ≡ answers (task d b start grain.size) us

-- What it is to play a list of turns over two contractors: r is whether they answered alike.
pub record PlayedBoth {P : Type 0} (d : Maps P) (a b : Meaning P) (start : P) (grain : ℕ) (us : List Turn) (r : Bool) : Type 0 where
  pub value : Decides r (answers (task d a start grain) us ≡ answers (task d b start grain) us)
  -- and so whether all answers had the same numbers
  pub numbered : Decides r (map (numbers d) (answers (task d a start grain) us) ≡ map (numbers d) (answers (task d b start grain) us))
  -- rearranged contractors never differ
  pub order : Rearranged d a b → r ≡ true
