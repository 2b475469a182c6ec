-- What the calls of a store do.
use Rattle.std.specs.Prelude.{◌≡◌, ℕ, ◌+◌, ◌-◌, ◌^◌, ◌<◌, ◌≤◌, List, ◌++◌, length, Result, MatchResult}
use Rattle.domain.specs.declared.refusal.Refusal.{Refusal}
use Rattle.domain.specs.declared.refusal.Refusal.TheVariants.{RollFull}
use Rattle.sheet.specs.Cuts.{cut_entries, cut_back}
use Rattle.sheet.specs.declared.cut.Cut.{Cut}
use Rattle.paving.specs.Steps.{Entry, labelled}
use Rattle.sheet.specs.Piles.{waiting, Exchanged}
use Rattle.sheet.specs.Rolls.{rolled}
use Rattle.sheet.specs.declared.store.Store.{Store}

-- The second store has records of these entries more.
pub record Noted {P : Type 0} (s : Store P) (es : List (Entry P)) (u : Store P) : Type 0 where
  pub roll : rolled u.roll ≡ rolled s.roll ++ labelled s.next_label es
  pub label : u.next_label ≡ s.next_label + length es
  pub pile : u.pile ≡ s.pile
  pub taken : u.taken ≡ s.taken
  pub steps : u.steps ≡ s.steps

-- the roll has places for so many records more, and there are labels for them
pub record Room {P : Type 0} (s : Store P) (n : ℕ) : Type 0 where
  pub places : s.roll.len + n ≤ 1024
  pub labels : s.next_label + n < 2 ^ 32

-- the pile has places for two pieces more, and the counters for a step more
pub record Slack {P : Type 0} (s : Store P) : Type 0 where
  pub pile : s.pile.len < 39
  pub steps : s.steps < 4294967295
  pub label : s.next_label < 4294967286

-- The second store is the first after a step that cut its top piece.
pub record Moved {P : Type 0} (s : Store P) (c : Cut P) (u : Store P) : Type 0 where
  pub pile : Exchanged (waiting s.pile) (cut_back c) (waiting u.pile)
  pub roll : rolled u.roll ≡ rolled s.roll ++ labelled s.next_label (cut_entries c)
  pub label : u.next_label ≡ s.next_label + length (cut_entries c)
  pub taken : u.taken ≡ s.taken
  pub steps : u.steps ≡ s.steps + 1

-- how many records there are, or that there are too many
abbrev pub Recorded : {P : Type 0} → Store P → Cut P → Result ℕ Refusal → Store P → Type 0
Recorded s c r u =
    MatchResult r (λ n. (n ≡ length (cut_entries c)) × (n ≤ 1024 - s.roll.len) × Moved s c u)
    (λ e. (e ≡ RollFull) × (1024 - s.roll.len < length (cut_entries c)) × (u ≡ s))
