-- Rounds of a run and takes: each brings the paving on, until nothing waits.
use Rattle.std.proofs.Common.{◌≡◌, ℕ, ◌-◌, ◌*◌, ◌<◌, List, [], Some, Option, sym, ap, ◌∙◌, arith}
use Rattle.domain.specs.declared.domain.Domain
use Rattle.contractor.specs.declared.contractor.Contractor
use Rattle.std.proofs.lemmas.List.{append-nil}
use Rattle.domain.specs.Laws.{Laws}
use Rattle.domain.specs.Maps.{Maps}
use Rattle.domain.specs.declared.refusal.Refusal.TheVariants.{NothingWaiting}
use Rattle.contractor.specs.Meaning.{Meaning, Sound}
use Rattle.paving.specs.Sheet.{opening}
use Rattle.paving.specs.Turns.{run, after_turns}
use Rattle.paving.specs.declared.answers.Answer.TheVariants.{Ran as RanFor}
use Rattle.paving.specs.declared.answers.Ran.{Ran}
use Rattle.paving.specs.declared.turns.Turn.{Turn}
use Rattle.paving.specs.declared.turns.Turn.TheVariants.{Run}
use Rattle.paving.proofs.Playing.{left_by_push}
use Rattle.sheet.specs.Piles.{waiting}
use Rattle.sheet.specs.Standing.{task_of, StandsAfter, SameTask, Turned}
use Rattle.sheet.specs.declared.sheet.Sheet.{Sheet}
use Rattle.sheet.proofs.Striding.{same_on}
use Rattle.listing.specs.Progress.{Begun, Clear, Emptied, Paved}
use Rattle.listing.proofs.Runs.{run_ends, run_goes}
use Rattle.listing.proofs.Turns.{next_shows, begun_next}

module _ {C P : Type 0} {g : Contractor.Ghosts C P} {k : Domain.Ghosts P} (d : Maps P) (l : Laws d) (m : C → Meaning P) (sound : (c : C) → Sound d (m c)) (display : P → Option (List ℕ)) (s u : Sheet C P g k) (most : ℕ) (r : Ran) (b : Turned d m (Run most) s (RanFor r) u) where
  ran_value : (us : List Turn) → StandsAfter d m us s → (run (task_of d m s) most (after_turns (task_of d m s) us)).value ≡ r
  ran_value us st = let e = (b.played us st).value in cc

  -- a run takes nothing
  pub begun_run : (text : List ℕ) → Begun d m display s text → Begun d m display u text
  begun_run text w = begun_next d l m sound display (Run most) s u (RanFor r) text text b w (λ shown h. sym (append-nil text))

  -- a run that stopped since nothing waits
  nothing_left : (text : List ℕ) → Begun d m display s text → r.refusal ≡ Some NothingWaiting → waiting u.store.pile ≡ []
  nothing_left text w e =
      let us = w.turns in
      let st = w.stands in
      let t = task_of d m s in
      (next_shows d l m sound display (Run most) s u (RanFor r) b us st).pile ∙ run_ends t most (after_turns t us) (ap (λ q. q.refusal) (ran_value us st) ∙ e)

  -- one that stopped otherwise has accepted a step, and steps have a limit
  grown : (text : List ℕ) → 0 < most → Clear d m display s text → (r.refusal ≡ Some NothingWaiting → ⊥) → (s.store.steps < u.store.steps) × (u.store.steps < 2 * d.count s.start)
  grown text h w f =
      let us = w.begun.turns in
      let st = w.begun.stands in
      let t = task_of d m s in
      let x = after_turns t us in
      let limits = (b.played us st).laws.limits in
      let shows = next_shows d l m sound display (Run most) s u (RanFor r) b us st in
      let goes = run_goes t limits.few_records most x h (sym st.roll ∙ w.roll) (λ e. f (sym (ap (λ q. q.refusal) (ran_value us st)) ∙ e)) in
      (omega (arith, goes, st.steps, shows.steps), omega (arith, limits.few_steps, shows.steps, ap (λ y. y.steps) (left_by_push t us (Run most) (opening t))))

  module _ (v : Sheet C P g k) (before text : List ℕ) (e : Emptied d m display u v text) where
    pub round_same : (first : Sheet C P g k) → SameTask d m first s → SameTask d m first v
    round_same first q = same_on d m first u v (same_on d m first s u q b.same) e.same

    -- the steps that are left grow fewer with each round
    pub round_less : 0 < most → Clear d m display s before → (r.refusal ≡ Some NothingWaiting → ⊥) → 2 * d.count v.start - v.store.steps < 2 * d.count s.start - s.store.steps
    round_less h w f = let g = grown before h w f in omega (arith, g.0, g.1, e.steps, ap d.count (e.same.start ∙ b.same.start))

    pub round_last : (first : Sheet C P g k) → SameTask d m first s → Begun d m display s before → r.refusal ≡ Some NothingWaiting → Paved d m display first v text
    round_last first q w f = record { same = round_same first q; clear = e.clear; done = e.pile ∙ nothing_left before w f }
