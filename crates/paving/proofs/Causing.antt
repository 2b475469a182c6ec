-- Each refusal has its one cause, and a run is so many accepted steps.
use Rattle.std.proofs.Common.{◌≡◌, ℕ, zero, suc, ◌<◌, Bool, true, false, ltb, ◌⊎◌, List, [], ◌∷◌, length, Some, None, Ok, Err, Option, Result, refl, ap, inl, inr, arith, MatchOption}
use Rattle.std.specs.Result as Results
use Rattle.std.proofs.lemmas.Bool.{ltb-true, ltb-false}
use Rattle.domain.specs.Refusals.{Given, code}
use Rattle.domain.specs.declared.refusal.Refusal.{Refusal}
use Rattle.domain.specs.declared.refusal.Refusal.TheVariants.{RollFull}
use Rattle.paving.specs.Laws.{Room, Crowded, Runs, Causes}
use Rattle.paving.specs.Laws.Accepts.{none, more}
use Rattle.paving.specs.Sheet.{Task, State, Outcome, outcome, roll, free}
use Rattle.paving.specs.Steps.{step_entries, stepped, step_on, step}
use Rattle.paving.specs.Turns.{ran_on, answered, take_from, take_oldest, run, turn}
use Rattle.paving.specs.declared.answers.Answer.{Answer}
use Rattle.paving.specs.declared.answers.Answer.TheVariants.{Stepped, Taken as Took, Refused}
use Rattle.paving.specs.declared.answers.Ran.{Ran}
use Rattle.paving.specs.declared.records.Record.{Record}
use Rattle.paving.specs.declared.turns.Turn.{Turn}
use Rattle.paving.specs.declared.turns.Turn.TheVariants.{Step, Run, Take, Find, Tally}

module _ {P : Type 0} (t : Task P) (s : State P) where
  step_cause : (ws : List P) → Results.MatchResult (step_on t s ws) (λ _. Room t s ws) (λ e. ((code e ≡ 11) × (ws ≡ [])) ⊎ ((code e ≡ 12) × Crowded t s ws))
  step_cause [] = inl (refl, refl)
  step_cause (x ∷ xs) = go (ltb (free s) (length (step_entries t x))) refl
    where
      go : (b : Bool) → ltb (free s) (length (step_entries t x)) ≡ b → Results.MatchResult (elim b [ true ↦ Err RollFull | false ↦ Ok (outcome (length (step_entries t x)) (stepped t s x xs)) ]) (λ _. Room t s (x ∷ xs)) (λ e. ((code e ≡ 11) × ((x ∷ xs) ≡ [])) ⊎ ((code e ≡ 12) × Crowded t s (x ∷ xs)))
      go true e = inr (refl, ltb-true (free s) (length (step_entries t x)) e)
      go false e = ltb-false (free s) (length (step_entries t x)) e

  take_cause : (rs : List (Record P)) → roll s ≡ rs → Given (take_from s rs) 13 (roll s ≡ [] → ⊥) (λ r. (qs : List (Record P)) × (roll s ≡ r.value ∷ qs))
  take_cause [] e = ((λ h. h e), refl)
  take_cause (r ∷ rs) e = ((λ f. cc), (rs, e))

  -- a refused turn leaves the sheet as it was
  answered_refused : {A : Type 0} (f : A → Answer P) (r : Result (Outcome A P) Refusal) (e : Refusal) → ((a : A) → f a ≡ Refused e → ⊥) → (answered f r s).value ≡ Refused e → (answered f r s).after ≡ s
  answered_refused f (Ok r) e h q = absurd (h r.value q)
  answered_refused f (Err i) e h q = refl

  unchanged : (u : Turn) (e : Refusal) → (turn t u s).value ≡ Refused e → (turn t u s).after ≡ s
  unchanged Step e q = answered_refused Stepped (step t s) e (λ a h. cc) q
  unchanged (Run m) e q = cc
  unchanged Take e q = answered_refused Took (take_oldest s) e (λ a h. cc) q
  unchanged (Find n) e q = refl
  unchanged Tally e q = refl

module _ {P : Type 0} (t : Task P) where
  runs_on : (m : ℕ) (s : State P) (r : Result (Outcome ℕ P) Refusal) (rest : State P → Outcome Ran P) → step t s ≡ r → ((u : State P) → Runs t m u (rest u)) → Runs t (suc m) s (ran_on r s rest)
  runs_on m s (Ok r) rest e f =
      let h = f r.after in
      record { accepts = more r e h.accepts; stops = later (rest r.after).value.refusal h.stops }
    where
      later : (o : Option Refusal) → MatchOption o ((rest r.after).value.accepted ≡ m) (λ i. ((rest r.after).value.accepted < m) × (step t (rest r.after).after ≡ Err i)) → MatchOption o (suc (rest r.after).value.accepted ≡ suc m) (λ i. (suc (rest r.after).value.accepted < suc m) × (step t (rest r.after).after ≡ Err i))
      later None h = ap suc h
      later (Some i) h = (omega (arith, h.0), h.1)
  runs_on m s (Err i) rest e f = record { accepts = none; stops = (omega arith, e) }

  pub run_runs : (m : ℕ) (s : State P) → Runs t m s (run t m s)
  unfolding run
  run_runs zero s = record { accepts = none; stops = refl }
  run_runs (suc m) s = runs_on m s (step t s) (run t m) refl (run_runs m)

  pub causes_law : (s : State P) → Causes t s
  causes_law s =
      record {
        step_by = step_cause t s s.waiting;
        take_by = take_cause t s (roll s) refl;
        run_by = λ m. run_runs m s;
        unchanged = unchanged t s;
      }
