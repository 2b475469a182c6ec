-- A run as steps in a row.
use Rattle.std.proofs.Common.{◌≡◌, ℕ, suc, ◌+◌, ◌-◌, ◌<◌, List, [], ◌∷◌, ◌++◌, Some, None, Ok, Err, Result, sym, refl, ap, ◌∙◌, subst, arith}
use Rattle.domain.specs.Laws.{Laws}
use Rattle.domain.specs.Maps.{Maps}
use Rattle.domain.specs.declared.refusal.Refusal.{Refusal}
use Rattle.domain.specs.declared.domain.Domain
use Rattle.contractor.specs.declared.contractor.Contractor
use Rattle.contractor.specs.Meaning.{Meaning, Sound}
use Rattle.paving.specs.Laws.{Accepts}
use Rattle.paving.specs.Laws.Accepts.{none}
use Rattle.paving.specs.Sheet.{Task, task, State, Outcome, outcome, opening}
use Rattle.paving.specs.Steps.{step}
use Rattle.paving.specs.Turns.{answered, run, turn, after_turns}
use Rattle.paving.specs.declared.answers.Answer.{Answer}
use Rattle.paving.specs.declared.answers.Answer.TheVariants.{Stepped, Ran as RanFor, Refused}
use Rattle.paving.specs.declared.answers.Ran.{Ran}
use Rattle.paving.specs.declared.turns.Turn.{Turn}
use Rattle.paving.specs.declared.turns.Turn.TheVariants.{Step, Run}
use Rattle.paving.proofs.Playing.{left_by_push}
use Rattle.paving.proofs.Running.{run_none, run_refused, run_from, accepts_push, more_accepted}
use Rattle.paving.proofs.SheetLaws.{sheet_laws}
use Rattle.sheet.specs.Standing.{Shows, task_of, StandsAfter, SameTask, Turned}
use Rattle.sheet.specs.declared.sheet.Sheet.{Sheet}

module _ {P : Type 0} (t : Task P) (x : State P) where
  stepped_ok : (n : ℕ) (q : Result (Outcome ℕ P) Refusal) → Stepped n ≡ (answered Stepped q x).value → (r : Outcome ℕ P) × (q ≡ Ok r) × ((answered Stepped q x).after ≡ r.after)
  stepped_ok n (Ok r) e = (r, refl, refl)
  stepped_ok n (Err i) e = let z : ◌≡◌ {A = ℕ} 0 1 = cc in absurd (omega arith)

  stepped_err : (i : Refusal) (q : Result (Outcome ℕ P) Refusal) → Refused i ≡ (answered Stepped q x).value → (q ≡ Err i) × ((answered Stepped q x).after ≡ x)
  stepped_err i (Ok r) e = let z : ◌≡◌ {A = ℕ} 0 1 = cc in absurd (omega arith)
  stepped_err i (Err j) e = let f : j ≡ i = cc in (ap Err f, refl)

module _ {C P : Type 0} {g : Contractor.Ghosts C P} {e : Domain.Ghosts P} (d : Maps P) (m : C → Meaning P) where
  pub same_task : (s u : Sheet C P g e) → SameTask d m s u → task_of d m u ≡ task_of d m s
  same_task s u e =
      ap (λ c. task d (m c) u.start u.grain.size) e.contractor
      ∙ ap (λ p. task d (m s.contractor) p u.grain.size) e.start
      ∙ ap (λ g. task d (m s.contractor) s.start g.size) e.grain

  pub same_on : (s u v : Sheet C P g e) → SameTask d m s u → SameTask d m u v → SameTask d m s v
  same_on s u v a b = record { contractor = b.contractor ∙ a.contractor; start = b.start ∙ a.start; grain = b.grain ∙ a.grain }

  -- So many accepted steps led from one sheet to another, whatever turns made the first.
  pub record Strode (s : Sheet C P g e) (n : ℕ) (u : Sheet C P g e) : Type 0 where
    pub same : SameTask d m s u
    pub far : (us : List Turn) → StandsAfter d m us s → (vs : List Turn) × Accepts (task_of d m s) n (after_turns (task_of d m s) us) (after_turns (task_of d m s) vs) × Shows (task_of d m s) u.store (after_turns (task_of d m s) vs)

  pub strode_none : (s : Sheet C P g e) → Strode s 0 s
  strode_none s = record { same = record { contractor = refl; start = refl; grain = refl }; far = λ us st. (us, none, st) }

  module _ (s u v : Sheet C P g e) (n : ℕ) (a : Strode s n u) where
    -- what the next step does, told of the first sheet's task
    next : (w : Answer P) → Turned d m Step u w v → (us : List Turn) → StandsAfter d m us s → (vs : List Turn) × Accepts (task_of d m s) n (after_turns (task_of d m s) us) (after_turns (task_of d m s) vs) × (w ≡ (turn (task_of d m s) Step (after_turns (task_of d m s) vs)).value) × Shows (task_of d m s) v.store (turn (task_of d m s) Step (after_turns (task_of d m s) vs)).after
    next w b us st =
        let f = a.far us st in
        let vs = f.0 in
        let e = same_task s u a.same in
        let o = same_task s v (same_on s u v a.same b.same) in
        let p = b.played vs (subst (λ t. Shows t u.store (after_turns t vs)) (sym e) f.2) in
        let shown = subst (λ t. Shows t v.store (after_turns t (vs ++ Step ∷ []))) o p.stands in
        (vs, f.1, p.value ∙ ap (λ t. (turn t Step (after_turns t vs)).value) e, subst (λ y. Shows (task_of d m s) v.store y) (left_by_push (task_of d m s) vs Step (opening (task_of d m s))) shown)

    pub strode_more : (k : ℕ) → Turned d m Step u (Stepped k) v → Strode s (n + 1) v
    strode_more k b =
        record {
          same = same_on s u v a.same b.same;
          far = λ us st.
              let t = task_of d m s in
              let f = next (Stepped k) b us st in
              let q = stepped_ok t (after_turns t f.0) k (step t (after_turns t f.0)) f.2 in
              let e = left_by_push t f.0 Step (opening t) in
              let i : suc n ≡ n + 1 = omega arith in
              (f.0 ++ Step ∷ [], subst (λ (j : ℕ). Accepts t j (after_turns t us) (after_turns t (f.0 ++ Step ∷ []))) i (subst (λ y. Accepts t (suc n) (after_turns t us) y) (sym (e ∙ q.2)) (accepts_push t f.1 q.0 q.1)), subst (λ y. Shows t v.store y) (sym e) f.3);
        }

module _ {C P : Type 0} {g : Contractor.Ghosts C P} {e : Domain.Ghosts P} (d : Maps P) (l : Laws d) (m : C → Meaning P) (sound : (c : C) → Sound d (m c)) where
  -- a run that ended after so many accepted steps
  ran : (s v : Sheet C P g e) (most : ℕ) (r : Ran) → SameTask d m s v → ((us : List Turn) → StandsAfter d m us s → (y : State P) × (run (task_of d m s) most (after_turns (task_of d m s) us) ≡ outcome r y) × Shows (task_of d m s) v.store y) → Turned d m (Run most) s (RanFor r) v
  ran s v most r e f =
      let t = task_of d m s in
      record {
        same = e;
        played = λ us st.
            let h = f us st in
            record {
              value = ap (λ o. RanFor o.value) (sym h.1);
              stands =
                  subst (λ q. Shows q v.store (after_turns q (us ++ Run most ∷ []))) (sym (same_task d m s v e))
                  (subst (λ y. Shows t v.store y) (sym (left_by_push t us (Run most) (opening t) ∙ ap (λ o. o.after) h.1)) h.2);
              laws = sheet_laws d l (m s.contractor) (sound s.contractor) s.start s.grain.size (us ++ Run most ∷ []);
            };
      }

  pub ran_all : (s u : Sheet C P g e) (most : ℕ) → Strode d m s most u → Turned d m (Run most) s (RanFor (record { accepted = most; refusal = None })) u
  ran_all s u most a =
      ran s u most (record { accepted = most; refusal = None }) a.same
      (λ us st.
      let t = task_of d m s in
      let f = a.far us st in
      (after_turns t f.0, run_from t f.1 0 most (omega arith) ∙ ap (more_accepted most) (run_none t (after_turns t f.0)) ∙ ap (λ (i : ℕ). outcome (record { accepted = i; refusal = None }) (after_turns t f.0)) (omega arith), f.2))

  pub ran_refused : (s u v : Sheet C P g e) (most n : ℕ) (i : Refusal) → n < most → Strode d m s n u → Turned d m Step u (Refused i) v → Turned d m (Run most) s (RanFor (record { accepted = n; refusal = Some i })) v
  ran_refused s u v most n i h a b =
      ran s v most (record { accepted = n; refusal = Some i }) (same_on d m s u v a.same b.same)
      (λ us st.
      let t = task_of d m s in
      let f = next d m s u v n a (Refused i) b us st in
      let q = stepped_err t (after_turns t f.0) i (step t (after_turns t f.0)) f.2 in
      (after_turns t f.0, run_from t f.1 (suc (most - suc n)) most (omega arith) ∙ ap (more_accepted n) (run_refused t (most - suc n) (after_turns t f.0) i q.0) ∙ ap (λ (j : ℕ). outcome (record { accepted = j; refusal = Some i }) (after_turns t f.0)) (omega arith), subst (λ y. Shows t v.store y) q.1 f.3))
