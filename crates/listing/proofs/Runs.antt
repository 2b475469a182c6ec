-- A run from an empty roll: it accepts a step, or nothing waits.
use Rattle.std.proofs.Common.{◌≡◌, ℕ, suc, ◌+◌, ◌<◌, ◌≤◌, Bool, true, false, ltb, List, [], ◌∷◌, length, Some, None, Ok, Err, Option, Result, sym, refl, ap, ◌∙◌, subst, inl, inr, arith, MatchOption}
use Rattle.std.proofs.lemmas.Bool.{ltb-true, cases_eq}
use Rattle.domain.specs.declared.refusal.Refusal.{Refusal}
use Rattle.domain.specs.declared.refusal.Refusal.TheVariants.{NothingWaiting, RollFull}
use Rattle.paving.specs.Laws.{Accepts}
use Rattle.paving.specs.Laws.Accepts.{none, more}
use Rattle.paving.specs.Sheet.{Task, State, Outcome, outcome, roll, free}
use Rattle.paving.specs.Steps.{step_entries, stepped, step_on, step}
use Rattle.paving.specs.Turns.{run}
use Rattle.paving.proofs.Causing.{run_runs}

module _ {P : Type 0} (t : Task P) where
  step_counts : (s : State P) (ws : List P) (r : Outcome ℕ P) → step_on t s ws ≡ Ok r → r.after.steps ≡ suc s.steps
  step_counts s [] r e = cc
  step_counts s (x ∷ xs) r e = go (ltb (free s) (length (step_entries t x))) e
    where
      go : (b : Bool) → ◌≡◌ {A = Result (Outcome ℕ P) Refusal} (elim b [ true ↦ Err RollFull | false ↦ Ok (outcome (length (step_entries t x)) (stepped t s x xs)) ]) (Ok r) → r.after.steps ≡ suc s.steps
      go true f = cc
      go false f = let same : outcome (length (step_entries t x)) (stepped t s x xs) ≡ r = cc in ap (λ o. o.after.steps) (sym same)

  -- a step is refused with nothing waiting where nothing waits
  nothing_waits : (s : State P) (ws : List P) → step_on t s ws ≡ Err NothingWaiting → ws ≡ []
  nothing_waits s [] e = refl
  nothing_waits s (x ∷ xs) e = go (ltb (free s) (length (step_entries t x))) e
    where
      go : (b : Bool) → ◌≡◌ {A = Result (Outcome ℕ P) Refusal} (elim b [ true ↦ Err RollFull | false ↦ Ok (outcome (length (step_entries t x)) (stepped t s x xs)) ]) (Err NothingWaiting) → (x ∷ xs) ≡ []
      go true f = cc
      go false f = cc

  -- and over an empty roll with nothing else
  refused_waits : ((p : P) → length (step_entries t p) ≤ 9) → (s : State P) (ws : List P) (i : Refusal) → roll s ≡ [] → step_on t s ws ≡ Err i → i ≡ NothingWaiting
  refused_waits few s [] i n e = cc
  refused_waits few s (x ∷ xs) i n e = go (ltb (free s) (length (step_entries t x))) refl e
    where
      go : (b : Bool) → ltb (free s) (length (step_entries t x)) ≡ b → ◌≡◌ {A = Result (Outcome ℕ P) Refusal} (elim b [ true ↦ Err RollFull | false ↦ Ok (outcome (length (step_entries t x)) (stepped t s x xs)) ]) (Err i) → i ≡ NothingWaiting
      go true h f = absurd (omega (arith, few x, ap length n, ltb-true (free s) (length (step_entries t x)) h))
      go false h f = cc

  accepts_counts : {n : ℕ} {s u : State P} → Accepts t n s u → u.steps ≡ s.steps + n
  accepts_counts none = omega arith
  accepts_counts (more {s = s} r e h) = omega (arith, step_counts s s.waiting r e, accepts_counts h)

  accepts_none : {n : ℕ} {s u : State P} → Accepts t n s u → n ≡ 0 → u ≡ s
  accepts_none none e = refl
  accepts_none (more r f h) e = absurd (omega arith)

  -- a run that stopped since nothing waits
  pub run_ends : (m : ℕ) (s : State P) → (run t m s).value.refusal ≡ Some NothingWaiting → (run t m s).after.waiting ≡ []
  run_ends m s e =
      let stops = (run_runs t m s).stops in
      nothing_waits (run t m s).after (run t m s).after.waiting (subst (λ o. MatchOption o ((run t m s).value.accepted ≡ m) (λ i. ((run t m s).value.accepted < m) × (step t (run t m s).after ≡ Err i))) e stops).1

  -- a run from an empty roll that stopped otherwise has accepted a step
  pub run_goes : ((p : P) → length (step_entries t p) ≤ 9) → (m : ℕ) (s : State P) → 0 < m → roll s ≡ [] → ((run t m s).value.refusal ≡ Some NothingWaiting → ⊥) → s.steps < (run t m s).after.steps
  run_goes few m s h n f =
      let r = run t m s in
      let runs = run_runs t m s in
      elim (cases_eq r.value.accepted 0) [
        | inl z ↦ absurd (idle z r.value.refusal refl runs.stops)
        | inr z ↦ omega (arith, accepts_counts runs.accepts)
      ]
    where
      idle : (run t m s).value.accepted ≡ 0 → (o : Option Refusal) → (run t m s).value.refusal ≡ o → MatchOption o ((run t m s).value.accepted ≡ m) (λ i. ((run t m s).value.accepted < m) × (step t (run t m s).after ≡ Err i)) → ⊥
      idle z None e c = omega arith
      idle z (Some i) e c =
          let same = accepts_none (run_runs t m s).accepts z in
          f (e ∙ ap Some (refused_waits few s s.waiting i n (sym (ap (step t) same) ∙ c.1)))
