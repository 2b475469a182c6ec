-- The numbers by which a sheet answers.
use Rattle.std.specs.Prelude.{ℕ, Some, None, Option}
use Rattle.domain.specs.Refusals.{code}
use Rattle.domain.specs.declared.refusal.Refusal.{Refusal}
use Rattle.paving.specs.declared.places.Place.{Place}
use Rattle.paving.specs.declared.places.Place.TheVariants.{Waiting, Inside, Outside, Undecided, Taken}

-- where a point is
abbrev pub place_code : Place → ℕ
place_code Waiting = 0
place_code Inside = 1
place_code Outside = 2
place_code Undecided = 3
place_code Taken = 4

-- what stopped a run, or 0
abbrev pub stop_code : Option Refusal → ℕ
stop_code None = 0
stop_code (Some e) = code e
