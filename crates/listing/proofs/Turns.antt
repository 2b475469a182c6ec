-- What a turn does to a sheet whose records are written to a text.
use Rattle.std.proofs.Common.{◌≡◌, ℕ, suc, ◌<◌, List, [], ◌∷◌, ◌++◌, length, Option, sym, refl, ap, ◌∙◌, subst, arith}
use Rattle.domain.specs.declared.domain.Domain
use Rattle.contractor.specs.declared.contractor.Contractor
use Rattle.std.proofs.lemmas.List.{append-nil, append_assoc, length-drop}
use Rattle.domain.specs.Laws.{Laws}
use Rattle.domain.specs.Maps.{Maps}
use Rattle.domain.specs.declared.refusal.Refusal.{Refusal}
use Rattle.contractor.specs.Meaning.{Meaning, Sound}
use Rattle.paving.specs.Laws.{takes}
use Rattle.paving.specs.Sheet.{State, opening, roll, gone}
use Rattle.paving.specs.Turns.{answered, take_from, turn, after_turns, answers}
use Rattle.paving.specs.declared.answers.Answer.{Answer}
use Rattle.paving.specs.declared.answers.Answer.TheVariants.{Taken as Took, Refused}
use Rattle.paving.specs.declared.records.Record.{Record}
use Rattle.paving.specs.declared.turns.Turn.{Turn}
use Rattle.paving.specs.declared.turns.Turn.TheVariants.{Take}
use Rattle.paving.proofs.Histories.{takes_append, history_law}
use Rattle.paving.proofs.Playing.{left_by_push, answers_push}
use Rattle.sheet.specs.Piles.{waiting}
use Rattle.sheet.specs.Rolls.{rolled}
use Rattle.sheet.specs.Standing.{Shows, task_of, StandsAfter, SameTask, Turned}
use Rattle.sheet.specs.declared.sheet.Sheet.{Sheet}
use Rattle.sheet.proofs.Striding.{same_task, same_on}
use Rattle.listing.specs.Lines.{Shown, record_line, records_text}
use Rattle.listing.specs.Progress.{Begun, Emptied}

text_append : {P : Type 0} (shown : P → List ℕ) (rs qs : List (Record P)) → records_text shown (rs ++ qs) ≡ records_text shown rs ++ records_text shown qs
text_append shown [] qs = refl
text_append shown (r ∷ rs) qs =
    ap (λ bs. record_line shown r ++ bs) (text_append shown rs qs) ∙ sym (append_assoc (record_line shown r) (records_text shown rs) (records_text shown qs))

module _ {P : Type 0} (x : State P) where
  -- a take leaves the pile and the steps, and shortens the roll; it is refused where the roll is empty
  took_waiting : (rs : List (Record P)) → (answered Took (take_from x rs) x).after.waiting ≡ x.waiting
  took_waiting [] = refl
  took_waiting (r ∷ rs) = refl

  took_steps : (rs : List (Record P)) → (answered Took (take_from x rs) x).after.steps ≡ x.steps
  took_steps [] = refl
  took_steps (r ∷ rs) = refl

  took_shorter : (r : Record P) (rs : List (Record P)) → roll x ≡ rs → Took r ≡ (answered Took (take_from x rs) x).value → length (roll (answered Took (take_from x rs) x).after) < length (roll x)
  took_shorter r [] e f = cc
  took_shorter r (q ∷ rs) e f = omega (arith, ap length e, length-drop x.taken x.made, length-drop (suc x.taken) x.made)

  none_left : (i : Refusal) (rs : List (Record P)) → roll x ≡ rs → Refused i ≡ (answered Took (take_from x rs) x).value → roll (answered Took (take_from x rs) x).after ≡ []
  none_left i [] e f = e
  none_left i (q ∷ rs) e f = cc

module _ {C P : Type 0} {g : Contractor.Ghosts C P} {e : Domain.Ghosts P} (d : Maps P) (m : C → Meaning P) (display : P → Option (List ℕ)) where
  -- Some records were taken from the sheet and written, and nothing else was done.
  pub record Emptying (s v : Sheet C P g e) (text : List ℕ) : Type 0 where
    pub same : SameTask d m s v
    pub begun : Begun d m display v text
    pub pile : waiting v.store.pile ≡ waiting s.store.pile
    pub steps : v.store.steps ≡ s.store.steps

module _ {C P : Type 0} {g : Contractor.Ghosts C P} {e : Domain.Ghosts P} (d : Maps P) (l : Laws d) (m : C → Meaning P) (sound : (c : C) → Sound d (m c)) (display : P → Option (List ℕ)) where
  -- one turn more, told of the first sheet's task
  pub next_shows : (u : Turn) (s v : Sheet C P g e) (a : Answer P) → Turned d m u s a v → (us : List Turn) → StandsAfter d m us s → Shows (task_of d m s) v.store (turn (task_of d m s) u (after_turns (task_of d m s) us)).after
  next_shows u s v a b us st =
      let t = task_of d m s in
      subst (Shows t v.store) (left_by_push t us u (opening t)) (subst (λ q. Shows q v.store (after_turns q (us ++ u ∷ []))) (same_task d m s v b.same) (b.played us st).stands)

  next_gone : (u : Turn) (s v : Sheet C P g e) (a : Answer P) → Turned d m u s a v → (us : List Turn) → StandsAfter d m us s → gone (after_turns (task_of d m v) (us ++ u ∷ [])) ≡ gone (after_turns (task_of d m s) us) ++ takes (a ∷ [])
  next_gone u s v a b us st =
      let t = task_of d m s in
      let history = history_law t l (m s.contractor).set (sound s.contractor) in
      ap (λ q. gone (after_turns q (us ++ u ∷ []))) (same_task d m s v b.same) ∙ (history (us ++ u ∷ [])).taken_given
      ∙ ap takes (answers_push t us u (opening t)) ∙ takes_append (answers t us) ((turn t u (after_turns t us)).value ∷ [])
      ∙ ap (λ rs. rs ++ takes ((turn t u (after_turns t us)).value ∷ [])) (sym (history us).taken_given)
      ∙ ap (λ w. gone (after_turns t us) ++ takes (w ∷ [])) (sym (b.played us st).value)

  -- the lines of what the turn took are written
  pub begun_next : (u : Turn) (s v : Sheet C P g e) (a : Answer P) (text after : List ℕ) → Turned d m u s a v → Begun d m display s text → ((shown : P → List ℕ) → Shown display shown → after ≡ text ++ records_text shown (takes (a ∷ []))) → Begun d m display v after
  begun_next u s v a text after b w f =
      record {
        turns = w.turns ++ u ∷ [];
        stands = (b.played w.turns w.stands).stands;
        lines = λ shown h.
            f shown h ∙ ap (λ bs. bs ++ records_text shown (takes (a ∷ []))) (w.lines shown h)
            ∙ sym (text_append shown (gone (after_turns (task_of d m s) w.turns)) (takes (a ∷ [])))
            ∙ ap (records_text shown) (sym (next_gone u s v a b w.turns w.stands));
      }

  -- a take leaves pile and steps
  take_pile : (s v : Sheet C P g e) (a : Answer P) → Turned d m Take s a v → (us : List Turn) → StandsAfter d m us s → waiting v.store.pile ≡ waiting s.store.pile
  take_pile s v a b us st =
      let x = after_turns (task_of d m s) us in
      (next_shows Take s v a b us st).pile ∙ took_waiting x (roll x) ∙ sym st.pile

  take_steps : (s v : Sheet C P g e) (a : Answer P) → Turned d m Take s a v → (us : List Turn) → StandsAfter d m us s → v.store.steps ≡ s.store.steps
  take_steps s v a b us st =
      let x = after_turns (task_of d m s) us in
      (next_shows Take s v a b us st).steps ∙ took_steps x (roll x) ∙ sym st.steps

  module _ (s u v : Sheet C P g e) (text : List ℕ) (w : Emptying d m display s u text) where
    pub emptying_more : (r : Record P) (after : List ℕ) → Turned d m Take u (Took r) v → ((shown : P → List ℕ) → Shown display shown → after ≡ text ++ record_line shown r) → Emptying d m display s v after
    emptying_more r after b f =
        let begun = w.begun in
        record {
          same = same_on d m s u v w.same b.same;
          begun = begun_next Take u v (Took r) text after b begun (λ shown h. f shown h ∙ ap (λ bs. text ++ bs) (sym (append-nil (record_line shown r))));
          pile = take_pile u v (Took r) b begun.turns begun.stands ∙ w.pile;
          steps = take_steps u v (Took r) b begun.turns begun.stands ∙ w.steps;
        }

    pub roll_shorter : (r : Record P) → Turned d m Take u (Took r) v → length (rolled v.store.roll) < length (rolled u.store.roll)
    roll_shorter r b =
        let us = w.begun.turns in
        let st = w.begun.stands in
        let x = after_turns (task_of d m u) us in
        omega (arith, ap length (next_shows Take u v (Took r) b us st).roll, ap length st.roll, took_shorter x r (roll x) refl (b.played us st).value)

    pub emptied : (i : Refusal) → Turned d m Take u (Refused i) v → Emptied d m display s v text
    emptied i b =
        let begun = w.begun in
        let x = after_turns (task_of d m u) begun.turns in
        record {
          same = same_on d m s u v w.same b.same;
          clear =
              record {
                begun = begun_next Take u v (Refused i) text text b begun (λ shown h. sym (append-nil text));
                roll = (next_shows Take u v (Refused i) b begun.turns begun.stands).roll ∙ none_left x i (roll x) refl (b.played begun.turns begun.stands).value;
              };
          pile = take_pile u v (Refused i) b begun.turns begun.stands ∙ w.pile;
          steps = take_steps u v (Refused i) b begun.turns begun.stands ∙ w.steps;
        }
