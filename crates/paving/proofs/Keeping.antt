-- What a sheet keeps: the start shared out, records that are true, a steep pile, steps left, labels in order.
use Rattle.std.proofs.Common.{◌≡◌, ℕ, zero, suc, ◌+◌, ◌*◌, ◌<◌, ◌≤◌, Bool, true, List, [], ◌∷◌, ◌++◌, length, get_or, sym, refl, ap, ◌∙◌, subst, arith}
use Rattle.std.specs.List.{AllByRecursion}
use Rattle.std.proofs.ByRecursion.{All-append}
use Rattle.std.proofs.lemmas.List.{length-append, length-drop, map-append}
use Rattle.std.proofs.lemmas.List.Sums.{sum_by-cons, sum_by-append}
use Rattle.scan.specs.Count.{bit}
use Rattle.domain.specs.Laws.{Laws}
use Rattle.domain.specs.Maps.{Maps, Inside as Within, times, total}
use Rattle.contractor.specs.Meaning.{meaning, Sound}
use Rattle.domain.proofs.Totals.{times_append, times_cons, times_single}
use Rattle.paving.specs.Sheet.{Task, State, opening, roll_places, roll, free, pieces}
use Rattle.paving.specs.Steps.{Entry, labelled, step_entries, step_back, stepped}
use Rattle.paving.specs.Turns.{one_taken, after_turns}
use Rattle.paving.specs.declared.records.Record.{Record}
use Rattle.paving.specs.declared.turns.Turn.{Turn}
use Rattle.paving.proofs.Playing.{Keeps, turns_keep}
use Rattle.paving.proofs.Stepping.{Says, Steep, entry_pieces, within_up, step_makes}

-- labels count on from n
abbrev pub Numbered : {P : Type 0} → ℕ → List (Record P) → Type 0
Numbered n [] = Unit {0}
Numbered n (r ∷ rs) = (r.label ≡ n) × Numbered (suc n) rs

pub record Kept {P : Type 0} (t : Task P) (set : ℕ → Bool) (s : State P) : Type 0 where
  pub shares : (n : ℕ) → times t.maps n (pieces s.made) + times t.maps n s.waiting ≡ bit (t.maps.holds t.start n)
  pub made_within : Within t.maps t.start (pieces s.made)
  pub waiting_within : Within t.maps t.start s.waiting
  pub true_of : AllByRecursion (λ r. Says t set r.class r.piece) s.made
  pub steep : Steep t.maps s.waiting
  pub steps_left : 2 * total t.maps s.waiting + s.steps + 1 ≤ 2 * t.maps.count t.start + length s.waiting
  pub numbered : Numbered 0 s.made
  pub few_made : length s.made ≤ 9 * s.steps
  pub taken_made : s.taken ≤ length s.made
  pub fits : length (roll s) ≤ roll_places

pub pieces_times : {P : Type 0} (d : Maps P) (n : ℕ) (rs qs : List (Record P)) → times d n (pieces (rs ++ qs)) ≡ times d n (pieces rs) + times d n (pieces qs)
pieces_times d n rs qs = ap (times d n) (map-append (λ r. r.piece) rs qs) ∙ times_append d n (pieces rs) (pieces qs)

-- entries with their labels
labelled_pieces : {P : Type 0} (n : ℕ) (es : List (Entry P)) → pieces (labelled n es) ≡ entry_pieces es
labelled_pieces n [] = refl
labelled_pieces n (e ∷ es) = ap (λ ps. e.piece ∷ ps) (labelled_pieces (suc n) es)

pub labelled_length : {P : Type 0} (n : ℕ) (es : List (Entry P)) → length (labelled n es) ≡ length es
labelled_length n [] = refl
labelled_length n (e ∷ es) = ap suc (labelled_length (suc n) es)

labelled_says : {P : Type 0} (t : Task P) (set : ℕ → Bool) (n : ℕ) (es : List (Entry P)) → AllByRecursion (λ e. Says t set e.class e.piece) es → AllByRecursion (λ r. Says t set r.class r.piece) (labelled n es)
labelled_says t set n [] a = tt
labelled_says t set n (e ∷ es) a = (a.0, labelled_says t set (suc n) es a.1)

labelled_numbered : {P : Type 0} (n : ℕ) (es : List (Entry P)) → Numbered n (labelled n es)
labelled_numbered n [] = tt
labelled_numbered n (e ∷ es) = (refl, labelled_numbered (suc n) es)

numbered_append : {P : Type 0} (n m : ℕ) (rs qs : List (Record P)) → m ≡ n + length rs → Numbered n rs → Numbered m qs → Numbered n (rs ++ qs)
numbered_append n m [] qs e a b = subst (λ (k : ℕ). Numbered k qs) (let f : m ≡ n = omega arith in f) b
numbered_append n m (r ∷ rs) qs e a b = (a.0, numbered_append (suc n) m rs qs (omega arith) a.1 b)

pub numbered_at : {P : Type 0} (n : ℕ) (rs : List (Record P)) → Numbered n rs → (k : ℕ) (r : Record P) → k < length rs → (get_or rs k r).label ≡ n + k
numbered_at n [] a k r h = absurd (omega arith)
numbered_at n (q ∷ rs) a zero r h = omega (arith, a.0)
numbered_at n (q ∷ rs) a (suc k) r h = omega (arith, numbered_at (suc n) rs a.1 k r (omega arith))

module _ {P : Type 0} (t : Task P) (l : Laws t.maps) (set : ℕ → Bool) (sound : Sound t.maps (meaning set t.keep t.shed)) where
  pub kept_opening : Kept t set (opening t)
  kept_opening =
      record {
        shares = λ n. omega (arith, times_single t.maps n t.start);
        made_within = tt;
        waiting_within = (l.reflexive t.start, tt);
        true_of = tt;
        steep = (omega (arith, l.height_most t.start), tt);
        steps_left = omega (arith, sum_by-cons t.maps.count t.start []);
        numbered = tt;
        few_made = omega arith;
        taken_made = omega arith;
        fits = omega arith;
      }

  module _ (s : State P) (k : Kept t set s) where
    kept_step : (x : P) (xs : List P) → s.waiting ≡ x ∷ xs → length (step_entries t x) ≤ free s → Kept t set (stepped t s x xs)
    kept_step x xs e room =
        let m = step_makes t l set sound x in
        let ws = subst (Within t.maps t.start) e k.waiting_within in
        let new = labelled (length s.made) (step_entries t x) in
        record {
          shares = λ n. omega (arith, k.shares n, ap (times t.maps n) e, times_cons t.maps n x xs, times_append t.maps n (step_back t x) xs, m.shares n, pieces_times t.maps n s.made new, ap (times t.maps n) (labelled_pieces (length s.made) (step_entries t x)));
          made_within =
              subst (Within t.maps t.start) (ap (λ ps. pieces s.made ++ ps) (sym (labelled_pieces (length s.made) (step_entries t x))) ∙ sym (map-append (λ r. r.piece) s.made new))
              (All-append (λ p. t.maps.within p t.start ≡ true) (pieces s.made) (entry_pieces (step_entries t x)) k.made_within (within_up t.maps l t.start x (entry_pieces (step_entries t x)) ws.0 m.records_within));
          waiting_within = All-append (λ p. t.maps.within p t.start ≡ true) (step_back t x) xs (within_up t.maps l t.start x (step_back t x) ws.0 m.back_within) ws.1;
          true_of = All-append (λ r. Says t set r.class r.piece) s.made new k.true_of (labelled_says t set (length s.made) (step_entries t x) m.true_of);
          steep = m.lower xs (subst (Steep t.maps) e k.steep);
          steps_left = omega (arith, k.steps_left, ap (total t.maps) e, ap length e, sum_by-cons t.maps.count x xs, sum_by-append t.maps.count (step_back t x) xs, length-append (step_back t x) xs, m.less);
          numbered = numbered_append 0 (length s.made) s.made new (omega arith) k.numbered (labelled_numbered (length s.made) (step_entries t x));
          few_made = omega (arith, k.few_made, length-append s.made new, labelled_length (length s.made) (step_entries t x), m.few);
          taken_made = omega (arith, k.taken_made, length-append s.made new);
          fits = omega (arith, k.fits, room, length-drop s.taken (s.made ++ new), length-append s.made new, labelled_length (length s.made) (step_entries t x), length-drop s.taken s.made);
        }

    kept_take : (r : Record P) (rs : List (Record P)) → roll s ≡ r ∷ rs → Kept t set (one_taken s)
    kept_take r rs e =
        record {
          shares = k.shares;
          made_within = k.made_within;
          waiting_within = k.waiting_within;
          true_of = k.true_of;
          steep = k.steep;
          steps_left = k.steps_left;
          numbered = k.numbered;
          few_made = k.few_made;
          taken_made = omega (arith, ap length e, length-drop s.taken s.made);
          fits = omega (arith, k.fits, length-drop s.taken s.made, length-drop (suc s.taken) s.made);
        }

  pub keeps : Keeps t (Kept t set)
  keeps = record { on_step = kept_step; on_take = kept_take }

  pub kept_after : (us : List Turn) → Kept t set (after_turns t us)
  kept_after us = turns_keep t (Kept t set) keeps us (opening t) kept_opening
