-- What a step makes of the piece that it takes.
use Rattle.std.specs.Prelude.{ℕ, suc, true, false, List, [], ◌∷◌, ◌++◌, map, length, Some, None, Ok, Err, Option, Result, ◌==◌, nat_le, nat_lt}
use Rattle.domain.specs.declared.refusal.Refusal.{Refusal}
use Rattle.domain.specs.declared.refusal.Refusal.TheVariants.{NothingWaiting, RollFull}
use Rattle.paving.specs.Sheet.{Task, State, Outcome, outcome, free}
use Rattle.paving.specs.declared.classes.Class.{Class}
use Rattle.paving.specs.declared.classes.Class.TheVariants.{Inside, Outside, Undecided}
use Rattle.paving.specs.declared.records.Record.{Record}

-- A piece with its class: a record before it has its label.
pub record Entry (P : Type 0) : Type 0 where
  pub class : Class
  pub piece : P

abbrev pub entries : {P : Type 0} → Class → List P → List (Entry P)
entries c ps = map (λ p. record { class = c; piece = p }) ps

-- labels count on from n
abbrev pub labelled : {P : Type 0} → ℕ → List (Entry P) → List (Record P)
labelled n [] = []
labelled n (e ∷ es) = record { label = n; class = e.class; piece = e.piece } ∷ labelled (suc n) es

module _ {P : Type 0} (t : Task P) where
  -- the strips of p without a sub-piece, or p whole if that is nothing
  abbrev pub without : P → Option P → List P
  without p None = p ∷ []
  without p (Some q) = t.maps.strips p q

  -- a rest of more than one point and of no more than the grain's size is undecided
  abbrev pub left_undecided : Option P → List P
  left_undecided None = []
  left_undecided (Some r) = elim (t.maps.count r == 1) [ true ↦ [] | false ↦ elim (nat_le (t.maps.size r) t.grain) [ true ↦ r ∷ [] | false ↦ [] ] ]

  -- a rest of one point goes back on the pile; one beyond the grain is halved, and its low half is next
  abbrev pub put_back : Option P → List P
  put_back None = []
  put_back (Some r) = elim (t.maps.count r == 1) [ true ↦ r ∷ [] | false ↦ elim (nat_le (t.maps.size r) t.grain) [ true ↦ [] | false ↦ (t.maps.halves r).0 ∷ (t.maps.halves r).1 ∷ [] ] ]

  -- what is recorded of what was kept, p
  abbrev pub kept_entries : P → List (Entry P)
  kept_entries p = entries Inside (without p (t.shed p)) ++ entries Undecided (left_undecided (t.shed p))

  -- what is recorded of x, in order, where o is what is kept of it
  abbrev pub entries_at : P → Option P → List (Entry P)
  entries_at x None = entries Outside (x ∷ [])
  entries_at x (Some p) = entries Outside (t.maps.strips x p) ++ kept_entries p

  -- what goes back on the pile, top first
  abbrev pub back_at : Option P → List P
  back_at None = []
  back_at (Some p) = put_back (t.shed p)

  abbrev pub step_entries : P → List (Entry P)
  step_entries x = entries_at x (t.keep x)

  abbrev pub step_back : P → List P
  step_back x = back_at (t.keep x)

  -- the state after an accepted step that took x from above xs
  abbrev pub stepped : State P → P → List P → State P
  stepped s x xs =
      record {
        waiting = step_back x ++ xs;
        made = s.made ++ labelled (length s.made) (step_entries x);
        taken = s.taken;
        steps = suc s.steps;
      }

  -- how many records an accepted step makes, and what it leaves: xs is what waits
  abbrev pub step_on : State P → List P → Result (Outcome ℕ P) Refusal
  step_on s [] = Err NothingWaiting
  step_on s (x ∷ xs) = elim (nat_lt (free s) (length (step_entries x))) [ true ↦ Err RollFull | false ↦ Ok (outcome (length (step_entries x)) (stepped s x xs)) ]

  abbrev pub step : State P → Result (Outcome ℕ P) Refusal
  step s = step_on s s.waiting
