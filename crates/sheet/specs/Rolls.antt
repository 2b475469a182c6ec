-- The records on a roll.
use Rattle.std.specs.Prelude.{ℕ, ◌+◌, ◌-◌, cond, List, ◌++◌, take, drop, nat_lt}
use Rattle.paving.specs.declared.records.Record.{Record}
use Rattle.sheet.specs.declared.roll.Roll.{Roll}

-- a list from its n-th element on, and round to that again
abbrev pub from : {X : Type 0} → ℕ → List X → List X
from n xs = drop n xs ++ take n xs

-- the oldest first
unfoldable pub rolled : {P : Type 0} → Roll P → List (Record P)
rolled r = take r.len (from r.first r.items)

-- the place of the ring that is so many after another
abbrev pub place : ℕ → ℕ → ℕ
place first many = cond (nat_lt (first + many) 1024) (first + many) (first + many - 1024)
