-- When a store shows a state, and when turns make a store.
use Rattle.std.specs.Prelude.{◌≡◌, List, length}
use Rattle.paving.specs.Sheet.{Task, State, roll, gone}
use Rattle.paving.specs.Turns.{points_of, after_turns}
use Rattle.paving.specs.declared.turns.Turn.{Turn}
use Rattle.sheet.specs.Piles.{waiting}
use Rattle.sheet.specs.Rolls.{rolled}
use Rattle.sheet.specs.declared.store.Store.{Store}

-- A store shows a state: it has what waits and what is on the roll, and of what was taken the points.
pub record Shows {P : Type 0} (t : Task P) (s : Store P) (x : State P) : Type 0 where
  pub pile : waiting s.pile ≡ x.waiting
  pub roll : rolled s.roll ≡ roll x
  pub taken : s.taken ≡ points_of t (gone x)
  pub steps : s.steps ≡ x.steps
  pub label : s.next_label ≡ length x.made

-- the store is what opening and some turns make
abbrev pub Made : {P : Type 0} → Task P → Store P → Type 0
Made t s = (us : List Turn) × Shows t s (after_turns t us)
