-- A store that shows a state shows, after a turn, the state that the turn leaves.
use Rattle.std.proofs.Common.{◌≡◌, ℕ, ◌-◌, ◌<◌, ◌≤◌, Bool, true, false, List, [], ◌∷◌, ◌++◌, length, Ok, Err, Option, Result, sym, ap, ◌∙◌, subst, ap₂, arith}
use Rattle.std.proofs.lemmas.List.{length-append, take-append-le, drop-append-le}
use Rattle.std.proofs.lemmas.Bool.{lt-ltb, le-ltb}
use Rattle.domain.specs.Laws.{Laws}
use Rattle.domain.specs.declared.refusal.Refusal.{Refusal}
use Rattle.domain.specs.declared.refusal.Refusal.TheVariants.{NothingWaiting, RollFull}
use Rattle.domain.proofs.Totals.{count_height}
use Rattle.domain.specs.declared.domain.Domain
use Rattle.contractor.specs.declared.contractor.Contractor
use Rattle.contractor.specs.Means.{means}
use Rattle.contractor.specs.Meaning.{meaning, Sound}
use Rattle.paving.specs.Sheet.{Task, State, outcome, free}
use Rattle.paving.specs.Steps.{labelled, entries_at, back_at, step_entries, step_back, stepped, step_on, step}
use Rattle.paving.specs.Turns.{answered, points_of, turn}
use Rattle.paving.specs.declared.answers.Answer.TheVariants.{Stepped}
use Rattle.paving.specs.declared.turns.Turn.TheVariants.{Step}
use Rattle.paving.proofs.Keeping.{Kept, labelled_length}
use Rattle.paving.proofs.Truths.{limits_law}
use Rattle.sheet.specs.Cuts.{CutOf}
use Rattle.sheet.specs.Piles.{waiting}
use Rattle.sheet.specs.Shown.{Shows}
use Rattle.sheet.specs.Standing.{task_of, step_answer}
use Rattle.sheet.specs.Stores.{Slack, Moved, Recorded}
use Rattle.sheet.specs.declared.cut.Cut.{Cut}
use Rattle.sheet.specs.declared.sheet.Sheet.{Sheet}
use Rattle.sheet.specs.declared.store.Store.{Store}
use Rattle.sheet.proofs.Piling.{waiting_length}
use Rattle.sheet.proofs.Rolling.{rolled_length}
use Rattle.sheet.proofs.Turning.{Does, made_below}

module _ {P : Type 0} (t : Task P) (l : Laws t.maps) (set : ℕ → Bool) (sound : Sound t.maps (meaning set t.keep t.shed)) (s : Store P) (x : State P) (k : Kept t set x) (h : Shows t s x) where
  -- the pile and the counters are never near their ends
  pub slack_stands : Slack s
  slack_stands =
      let m = limits_law t l set sound x k in
      let few = count_height t.maps l 24 t.start (l.height_most t.start) in
      record {
        pile = omega (arith, m.few_waiting, ap length h.pile, waiting_length s.pile);
        steps = omega (arith, m.few_steps, few, h.steps);
        label = omega (arith, m.few_steps, few, m.few_made, h.label);
      }

  same_free : free x ≡ 1024 - s.roll.len
  same_free = omega (arith, ap length h.roll, rolled_length s.roll)

  module _ (p : P) (ps : List P) (w : waiting s.pile ≡ p ∷ ps) where
    step_is : step t x ≡ step_on t x (p ∷ ps)
    step_is = ap (step_on t x) (sym h.pile ∙ w)

    step_room : length (step_entries t p) ≤ 1024 - s.roll.len → step t x ≡ Ok (outcome (length (step_entries t p)) (stepped t x p ps))
    step_room f =
        step_is ∙ ap (λ (b : Bool). elim b [ true ↦ Err RollFull | false ↦ Ok (outcome (length (step_entries t p)) (stepped t x p ps)) ])
        (le-ltb (free x) (length (step_entries t p)) (omega (arith, same_free)))

    step_crowded : 1024 - s.roll.len < length (step_entries t p) → step t x ≡ Err RollFull
    step_crowded f =
        step_is ∙ ap (λ (b : Bool). elim b [ true ↦ Err RollFull | false ↦ Ok (outcome (length (step_entries t p)) (stepped t x p ps)) ])
        (lt-ltb (free x) (length (step_entries t p)) (omega (arith, same_free)))

    module _ (c : Cut P) (made : CutOf c (step_entries t p) (step_back t p)) where
      moved_shows : (u : Store P) → Moved s c u → Shows t u (stepped t x p ps)
      moved_shows u m =
          let e : m.pile.1 ≡ ps = cc (m.pile.2, w) in
          let new = labelled (length x.made) (step_entries t p) in
          record {
            pile = m.pile.3 ∙ ap₂ ◌++◌ made.back e;
            roll =
                m.roll ∙ ap₂ ◌++◌ h.roll (ap₂ labelled h.label made.records)
                ∙ sym (drop-append-le x.taken x.made new k.taken_made);
            taken = m.taken ∙ h.taken ∙ ap (points_of t) (sym (take-append-le x.taken x.made new k.taken_made));
            steps = omega (arith, m.steps, h.steps);
            label = omega (arith, m.label, h.label, ap length made.records, length-append x.made new, labelled_length (length x.made) (step_entries t p));
          }

      pub step_shows : (r : Result ℕ Refusal) (u : Store P) → Recorded s c r u → (step_answer r ≡ (turn t Step x).value) × Shows t u (turn t Step x).after
      step_shows (Ok n) u m =
          let e = step_room (omega (arith, m.0, m.1, ap length made.records)) in
          let counted_is : n ≡ length (step_entries t p) = m.0 ∙ ap length made.records in
          (ap Stepped counted_is ∙ sym (ap (λ q. (answered Stepped q x).value) e), subst (λ q. Shows t u (answered Stepped q x).after) (sym e) (moved_shows u m.2))
      step_shows (Err i) u m =
          let e = step_crowded (omega (arith, m.1, ap length made.records)) in
          (ap (λ j. step_answer (Err j)) m.0 ∙ sym (ap (λ q. (answered Stepped q x).value) e), subst (λ q. Shows t u (answered Stepped q x).after) (sym e) (subst (λ v. Shows t v x) (sym m.2) h))

  pub none_waits : waiting s.pile ≡ [] → (step_answer (Err NothingWaiting) ≡ (turn t Step x).value) × Shows t s (turn t Step x).after
  none_waits w =
      let e : step t x ≡ Err NothingWaiting = ap (step_on t x) (sym h.pile ∙ w) in
      (sym (ap (λ q. (answered Stepped q x).value) e), subst (λ q. Shows t s (answered Stepped q x).after) (sym e) h)

module _ {C P : Type 0} {g : Contractor.Ghosts C P} {e : Domain.Ghosts P} (l : Laws e.maps) (sound : (c : C) → Sound e.maps (means g c)) (s : Sheet C P g e) where
  abbrev t : Task P
  t = task_of e.maps (means g) s

  pub slack_made : Slack s.store
  slack_made =
      record {
        pile = made_below l sound s _ _ (λ x k h. (slack_stands t l (g.set s.contractor) (sound s.contractor) s.store x k h).pile);
        steps = made_below l sound s _ _ (λ x k h. (slack_stands t l (g.set s.contractor) (sound s.contractor) s.store x k h).steps);
        label = made_below l sound s _ _ (λ x k h. (slack_stands t l (g.set s.contractor) (sound s.contractor) s.store x k h).label);
      }

  pub step_none : waiting s.store.pile ≡ [] → Does t (g.set s.contractor) Step s.store (step_answer (Err NothingWaiting)) s.store
  step_none w x k h = none_waits t l (g.set s.contractor) (sound s.contractor) s.store x k h w

  -- o is what the contractor keeps of the top piece
  pub step_does : (p : P) (ps : List P) → waiting s.store.pile ≡ p ∷ ps → (o : Option P) → o ≡ g.kept s.contractor p → (c : Cut P) → CutOf c (entries_at t p o) (back_at t o) → (r : Result ℕ Refusal) (u : Store P) → Recorded s.store c r u → Does t (g.set s.contractor) Step s.store (step_answer r) u
  step_does p ps w o kept c made r u m x k h =
      step_shows t l (g.set s.contractor) (sound s.contractor) s.store x k h p ps w c (subst (λ q. CutOf c (entries_at t p q) (back_at t q)) kept made) r u m
