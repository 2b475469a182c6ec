-- What a sheet knows of its turns is what their answers said.
use Rattle.std.proofs.Common.{◌≡◌, ℕ, zero, suc, ◌+◌, Bool, true, false, ltb, List, [], ◌∷◌, ◌++◌, length, take, drop, IfOk, Ok, Err, Result, sym, refl, ap, ◌∙◌, arith}
use Rattle.std.proofs.lemmas.List.{append-nil, append_assoc, take-append-le}
use Rattle.domain.specs.Laws.{Laws}
use Rattle.domain.specs.declared.refusal.Refusal.{Refusal}
use Rattle.domain.specs.declared.refusal.Refusal.TheVariants.{RollFull}
use Rattle.contractor.specs.Meaning.{meaning, Sound}
use Rattle.paving.specs.Laws.{takes, accepted, History}
use Rattle.paving.specs.Sheet.{Task, State, Outcome, outcome, opening, roll, gone, free}
use Rattle.paving.specs.Steps.{labelled, step_entries, stepped, step_on, step}
use Rattle.paving.specs.Turns.{ran_on, answered, take_from, run, found, find, turn, left_by, answers_from}
use Rattle.paving.specs.declared.answers.Answer.{Answer}
use Rattle.paving.specs.declared.answers.Answer.TheVariants.{Stepped, Ran as RanFor, Taken as Took, Found, Tallied, Refused}
use Rattle.paving.specs.declared.answers.Ran.{Ran}
use Rattle.paving.specs.declared.places.Place.{Place}
use Rattle.paving.specs.declared.records.Record.{Record}
use Rattle.paving.specs.declared.turns.Turn.{Turn}
use Rattle.paving.specs.declared.turns.Turn.TheVariants.{Step, Run, Take, Find, Tally}
use Rattle.paving.proofs.Keeping.{Kept, keeps, kept_opening}
use Rattle.paving.proofs.Playing.{step_keeps, turn_keeps}

-- what an answer adds to what is known of the turns
record Adds {P : Type 0} (s : State P) (a : Answer P) (after : State P) : Type 0 where
  given : gone after ≡ gone s ++ takes (a ∷ [])
  told : after.steps ≡ s.steps + accepted (a ∷ [])

-- so many steps more, and nothing taken
record Steps {P : Type 0} (s : State P) (n : ℕ) (after : State P) : Type 0 where
  given : gone after ≡ gone s
  told : after.steps ≡ s.steps + n

pub takes_append : {P : Type 0} (as' bs : List (Answer P)) → takes (as' ++ bs) ≡ takes as' ++ takes bs
takes_append [] bs = refl
takes_append (Stepped n ∷ as') bs = takes_append as' bs
takes_append (RanFor r ∷ as') bs = takes_append as' bs
takes_append (Took r ∷ as') bs = ap (λ rs. r ∷ rs) (takes_append as' bs)
takes_append (Found p ∷ as') bs = takes_append as' bs
takes_append (Tallied y ∷ as') bs = takes_append as' bs
takes_append (Refused e ∷ as') bs = takes_append as' bs

accepted_cons : {P : Type 0} (a : Answer P) (rest : List (Answer P)) → accepted (a ∷ rest) ≡ accepted (a ∷ []) + accepted rest
accepted_cons (Stepped n) rest = omega arith
accepted_cons (RanFor r) rest = omega arith
accepted_cons (Took r) rest = omega arith
accepted_cons (Found p) rest = omega arith
accepted_cons (Tallied y) rest = omega arith
accepted_cons (Refused e) rest = omega arith

-- the oldest on the roll is the next taken
take_next : {X : Type 0} (n : ℕ) (xs : List X) (y : X) (ys : List X) → drop n xs ≡ y ∷ ys → take (suc n) xs ≡ take n xs ++ y ∷ []
take_next zero [] y ys e = cc
take_next zero (x ∷ xs) y ys e = cc
take_next (suc n) [] y ys e = cc
take_next (suc n) (x ∷ xs) y ys e = ap (λ zs. x ∷ zs) (take_next n xs y ys e)

module _ {P : Type 0} (t : Task P) (l : Laws t.maps) (set : ℕ → Bool) (sound : Sound t.maps (meaning set t.keep t.shed)) where
  step_steps : (s : State P) → Kept t set s → IfOk (step t s) (λ r. Steps s 1 r.after)
  step_steps s k = on s.waiting
    where
      on : (ws : List P) → IfOk (step_on t s ws) (λ r. Steps s 1 r.after)
      on [] = tt
      on (x ∷ xs) = go (ltb (free s) (length (step_entries t x)))
        where
          go : (b : Bool) → IfOk (elim b [ true ↦ Err RollFull | false ↦ Ok (outcome (length (step_entries t x)) (stepped t s x xs)) ]) (λ r. Steps s 1 r.after)
          go true = tt
          go false =
              record {
                given = take-append-le s.taken s.made (labelled (length s.made) (step_entries t x)) k.taken_made;
                told = omega arith;
              }

  ran_steps : (r : Result (Outcome ℕ P) Refusal) (s : State P) (rest : State P → Outcome Ran P) → IfOk r (λ r. Steps s 1 r.after) → IfOk r (λ r. Kept t set r.after) → ((s : State P) → Kept t set s → Steps s (rest s).value.accepted (rest s).after) → Steps s (ran_on r s rest).value.accepted (ran_on r s rest).after
  ran_steps (Ok r) s rest h q f =
      let more = f r.after q in
      record { given = more.given ∙ h.given; told = omega (arith, more.told, h.told) }
  ran_steps (Err e) s rest h q f = record { given = refl; told = omega arith }

  run_steps : (m : ℕ) (s : State P) → Kept t set s → Steps s (run t m s).value.accepted (run t m s).after
  unfolding run
  run_steps zero s k = record { given = refl; told = omega arith }
  run_steps (suc m) s k = ran_steps (step t s) s (run t m) (step_steps s k) (step_keeps t (Kept t set) (keeps t l set sound) s k) (run_steps m)

  -- nothing taken
  adds_none : (s : State P) (a : Answer P) (after : State P) → takes (a ∷ []) ≡ [] → Steps s (accepted (a ∷ [])) after → Adds s a after
  adds_none s a after e h =
      record { given = h.given ∙ sym (append-nil (gone s)) ∙ ap (λ rs. gone s ++ rs) (sym e); told = h.told }

  step_adds : (s : State P) (r : Result (Outcome ℕ P) Refusal) → IfOk r (λ r. Steps s 1 r.after) → Adds s (answered Stepped r s).value (answered Stepped r s).after
  step_adds s (Ok r) h = adds_none s (Stepped r.value) r.after refl h
  step_adds s (Err e) h = adds_none s (Refused e) s refl (record { given = refl; told = omega arith })

  take_adds : (s : State P) (rs : List (Record P)) → roll s ≡ rs → Adds s (answered Took (take_from s rs) s).value (answered Took (take_from s rs) s).after
  take_adds s [] e = record { given = sym (append-nil (gone s)); told = omega arith }
  take_adds s (r ∷ rs) e = record { given = take_next s.taken s.made r rs e; told = omega arith }

  find_adds : (s : State P) (r : Result Place Refusal) → Adds s (found r) s
  find_adds s (Ok p) = record { given = sym (append-nil (gone s)); told = omega arith }
  find_adds s (Err e) = record { given = sym (append-nil (gone s)); told = omega arith }

  turn_adds : (u : Turn) (s : State P) → Kept t set s → Adds s (turn t u s).value (turn t u s).after
  turn_adds Step s k = step_adds s (step t s) (step_steps s k)
  turn_adds (Run m) s k =
      let h = run_steps m s k in record { given = h.given ∙ sym (append-nil (gone s)); told = omega (arith, h.told) }
  turn_adds Take s k = take_adds s (roll s) refl
  turn_adds (Find n) s k = find_adds s (find t n s)
  turn_adds Tally s k = record { given = sym (append-nil (gone s)); told = omega arith }

  -- over a list of turns
  given_by : (us : List Turn) (s : State P) → Kept t set s → gone (left_by t us s) ≡ gone s ++ takes (answers_from t us s)
  given_by [] s k = sym (append-nil (gone s))
  given_by (u ∷ us) s k =
      given_by us (turn t u s).after (turn_keeps t (Kept t set) (keeps t l set sound) u s k)
      ∙ ap (λ rs. rs ++ takes (answers_from t us (turn t u s).after)) (turn_adds u s k).given
      ∙ append_assoc (gone s) (takes ((turn t u s).value ∷ [])) (takes (answers_from t us (turn t u s).after))
      ∙ ap (λ rs. gone s ++ rs) (sym (takes_append ((turn t u s).value ∷ []) (answers_from t us (turn t u s).after)))

  told_by : (us : List Turn) (s : State P) → Kept t set s → (left_by t us s).steps ≡ s.steps + accepted (answers_from t us s)
  told_by [] s k = omega arith
  told_by (u ∷ us) s k =
      omega (arith, told_by us (turn t u s).after (turn_keeps t (Kept t set) (keeps t l set sound) u s k), (turn_adds u s k).told, accepted_cons (turn t u s).value (answers_from t us (turn t u s).after))

  pub history_law : (us : List Turn) → History t us
  history_law us =
      record {
        taken_given = given_by us (opening t) (kept_opening t l set sound);
        steps_told = omega (arith, told_by us (opening t) (kept_opening t l set sound));
      }
