-- A run, one step at a time: what a loop over steps needs.
use Rattle.std.proofs.Common.{◌≡◌, ℕ, suc, ◌+◌, replicate, Some, None, Ok, Err, refl, ap, ◌∙◌, arith}
use Rattle.domain.specs.declared.refusal.Refusal.{Refusal}
use Rattle.paving.specs.Laws.{Accepts}
use Rattle.paving.specs.Laws.Accepts.{none, more}
use Rattle.paving.specs.Sheet.{Task, State, Outcome, outcome}
use Rattle.paving.specs.Steps.{step}
use Rattle.paving.specs.Turns.{ran_on, answered, run, left_by}
use Rattle.paving.specs.declared.answers.Answer.TheVariants.{Stepped}
use Rattle.paving.specs.declared.answers.Ran.{Ran}
use Rattle.paving.specs.declared.turns.Turn.TheVariants.{Step}

-- so many accepted steps more, in front
abbrev pub more_accepted : {P : Type 0} → ℕ → Outcome Ran P → Outcome Ran P
more_accepted n r = outcome (record { accepted = n + r.value.accepted; refusal = r.value.refusal }) r.after

module _ {P : Type 0} (t : Task P) where
  -- the first turn of a run
  pub run_none : (s : State P) → run t 0 s ≡ outcome (record { accepted = 0; refusal = None }) s
  unfolding run
  run_none s = refl

  run_suc : (m : ℕ) (s : State P) → run t (suc m) s ≡ ran_on (step t s) s (run t m)
  unfolding run
  run_suc m s = refl

  pub run_refused : (m : ℕ) (s : State P) (e : Refusal) → step t s ≡ Err e → run t (suc m) s ≡ outcome (record { accepted = 0; refusal = Some e }) s
  run_refused m s e h = run_suc m s ∙ ap (λ r. ran_on r s (run t m)) h

  pub run_accepted : (m : ℕ) (s : State P) (r : Outcome ℕ P) → step t s ≡ Ok r → run t (suc m) s ≡ more_accepted 1 (run t m r.after)
  run_accepted m s r h =
      run_suc m s ∙ ap (λ q. ran_on q s (run t m)) h ∙ ap (λ (k : ℕ). outcome (record { accepted = k; refusal = (run t m r.after).value.refusal }) (run t m r.after).after) (omega arith)

  -- a run goes on from where its accepted steps lead
  pub run_from : {n : ℕ} {s u : State P} → Accepts t n s u → (m k : ℕ) → k ≡ n + m → run t k s ≡ more_accepted n (run t m u)
  run_from (none {s = s}) m k e =
      let f : k ≡ m = omega arith in
      ap (λ (i : ℕ). run t i s) f ∙ ap (λ (i : ℕ). outcome (record { accepted = i; refusal = (run t m s).value.refusal }) (run t m s).after) (omega arith)
  run_from (more {n = n} {s = s} {u = u} r e h) m k f =
      let g : k ≡ suc (n + m) = omega arith in
      ap (λ (i : ℕ). run t i s) g ∙ run_accepted (n + m) s r e ∙ ap (more_accepted 1) (run_from h m (n + m) refl)
      ∙ ap (λ (i : ℕ). outcome (record { accepted = i; refusal = (run t m u).value.refusal }) (run t m u).after) (omega arith)

  -- one accepted step more, at the end
  pub accepts_push : {n : ℕ} {s u : State P} → Accepts t n s u → (r : Outcome ℕ P) → step t u ≡ Ok r → Accepts t (suc n) s r.after
  accepts_push none r e = more r e none
  accepts_push (more q f h) r e = more q f (accepts_push h r e)

  -- accepted steps are so many turns
  pub accepts_turns : {n : ℕ} {s u : State P} → Accepts t n s u → left_by t (replicate n Step) s ≡ u
  accepts_turns none = refl
  accepts_turns (more {n = n} {s = s} r e h) =
      ap (λ q. left_by t (replicate n Step) (answered Stepped q s).after) e ∙ accepts_turns h
