-- One induction for all: what every accepted step and every take keeps holds after every list of turns.
use Rattle.std.proofs.Common.{◌≡◌, ℕ, zero, suc, ◌≤◌, Bool, true, false, ltb, List, [], ◌∷◌, ◌++◌, length, IfOk, Ok, Err, Result, refl, ap}
use Rattle.std.proofs.lemmas.Bool.{ltb-false}
use Rattle.domain.specs.declared.refusal.Refusal.{Refusal}
use Rattle.domain.specs.declared.refusal.Refusal.TheVariants.{RollFull}
use Rattle.paving.specs.Sheet.{Task, State, Outcome, outcome, roll, free}
use Rattle.paving.specs.Steps.{step_entries, stepped, step_on, step}
use Rattle.paving.specs.Turns.{ran_on, answered, one_taken, take_from, take_oldest, run, turn, left_by, answers_from}
use Rattle.paving.specs.declared.answers.Answer.{Answer}
use Rattle.paving.specs.declared.answers.Answer.TheVariants.{Stepped, Taken as Took}
use Rattle.paving.specs.declared.answers.Ran.{Ran}
use Rattle.paving.specs.declared.records.Record.{Record}
use Rattle.paving.specs.declared.turns.Turn.{Turn}
use Rattle.paving.specs.declared.turns.Turn.TheVariants.{Step, Run, Take, Find, Tally}

pub record Keeps {P : Type 0} (t : Task P) (Q : State P → Type 0) : Type 0 where
  pub on_step : (s : State P) → Q s → (x : P) (xs : List P) → s.waiting ≡ x ∷ xs → length (step_entries t x) ≤ free s → Q (stepped t s x xs)
  pub on_take : (s : State P) → Q s → (r : Record P) (rs : List (Record P)) → roll s ≡ r ∷ rs → Q (one_taken s)

module _ {P : Type 0} (t : Task P) (Q : State P → Type 0) (k : Keeps t Q) where
  step_keeps_on : (s : State P) → Q s → (ws : List P) → s.waiting ≡ ws → IfOk (step_on t s ws) (λ r. Q r.after)
  step_keeps_on s q [] e = tt
  step_keeps_on s q (x ∷ xs) e = go (ltb (free s) (length (step_entries t x))) refl
    where
      go : (b : Bool) → ltb (free s) (length (step_entries t x)) ≡ b → IfOk (elim b [ true ↦ Err RollFull | false ↦ Ok (outcome (length (step_entries t x)) (stepped t s x xs)) ]) (λ r. Q r.after)
      go true f = tt
      go false f = k.on_step s q x xs e (ltb-false (free s) (length (step_entries t x)) f)

  pub step_keeps : (s : State P) → Q s → IfOk (step t s) (λ r. Q r.after)
  step_keeps s q = step_keeps_on s q s.waiting refl

  pub take_keeps : (s : State P) → Q s → IfOk (take_oldest s) (λ r. Q r.after)
  take_keeps s q = go (roll s) refl
    where
      go : (rs : List (Record P)) → roll s ≡ rs → IfOk (take_from s rs) (λ r. Q r.after)
      go [] e = tt
      go (r ∷ rs) e = k.on_take s q r rs e

  ran_keeps : (r : Result (Outcome ℕ P) Refusal) (s : State P) (rest : State P → Outcome Ran P) → Q s → IfOk r (λ r. Q r.after) → ((s : State P) → Q s → Q (rest s).after) → Q (ran_on r s rest).after
  ran_keeps (Ok r) s rest q h f = f r.after h
  ran_keeps (Err e) s rest q h f = q

  pub run_keeps : (m : ℕ) (s : State P) → Q s → Q (run t m s).after
  unfolding run
  run_keeps zero s q = q
  run_keeps (suc m) s q = ran_keeps (step t s) s (run t m) q (step_keeps s q) (run_keeps m)

  answered_keeps : {A : Type 0} (f : A → Answer P) (r : Result (Outcome A P) Refusal) (s : State P) → Q s → IfOk r (λ r. Q r.after) → Q (answered f r s).after
  answered_keeps f (Ok r) s q h = h
  answered_keeps f (Err e) s q h = q

  pub turn_keeps : (u : Turn) (s : State P) → Q s → Q (turn t u s).after
  turn_keeps Step s q = answered_keeps Stepped (step t s) s q (step_keeps s q)
  turn_keeps (Run m) s q = run_keeps m s q
  turn_keeps Take s q = answered_keeps Took (take_oldest s) s q (take_keeps s q)
  turn_keeps (Find n) s q = q
  turn_keeps Tally s q = q

  pub turns_keep : (us : List Turn) (s : State P) → Q s → Q (left_by t us s)
  turns_keep [] s q = q
  turns_keep (u ∷ us) s q = turns_keep us (turn t u s).after (turn_keeps u s q)

module _ {P : Type 0} (t : Task P) where
  -- one turn more, at the end of a list
  pub left_by_push : (us : List Turn) (u : Turn) (s : State P) → left_by t (us ++ u ∷ []) s ≡ (turn t u (left_by t us s)).after
  left_by_push [] u s = refl
  left_by_push (v ∷ us) u s = left_by_push us u (turn t v s).after

  pub answers_push : (us : List Turn) (u : Turn) (s : State P) → answers_from t (us ++ u ∷ []) s ≡ answers_from t us s ++ (turn t u (left_by t us s)).value ∷ []
  answers_push [] u s = refl
  answers_push (v ∷ us) u s = ap (λ as'. (turn t v s).value ∷ as') (answers_push us u (turn t v s).after)
