-- Where a paving ends, whatever the turns: steps alone, without regard to the roll, lead to one end.
use Rattle.std.proofs.Common.{◌≡◌, ℕ, zero, suc, ◌+◌, ◌-◌, List, [], ◌∷◌, sym, refl, ap, ◌∙◌, inl, inr, arith}
use Rattle.std.proofs.lemmas.Bool.{cases_lt}
use Rattle.paving.specs.Sheet.{Task, State, opening}
use Rattle.paving.specs.Steps.{stepped}
use Rattle.paving.specs.Turns.{after_turns}
use Rattle.paving.specs.declared.turns.Turn.{Turn}
use Rattle.paving.proofs.Playing.{turns_keep}

-- the state as if nothing had been taken
abbrev pub untaken : {P : Type 0} → State P → State P
untaken s = record { waiting = s.waiting; made = s.made; taken = 0; steps = s.steps }

module _ {P : Type 0} (t : Task P) where
  -- a step for which the roll has room; none where nothing waits
  abbrev bare_on : State P → List P → State P
  bare_on s [] = s
  bare_on s (x ∷ xs) = stepped t s x xs

  -- so many such steps from the opening
  abbrev bare : ℕ → State P
  bare zero = opening t
  bare (suc n) = bare_on (bare n) (bare n).waiting

  -- once nothing waits, further steps change nothing
  rests : (n k : ℕ) → (bare n).waiting ≡ [] → bare (k + n) ≡ bare n
  rests n zero e = let f : 0 + n ≡ n = omega arith in ap bare f
  rests n (suc k) e =
      let same = rests n k e in
      let f : suc k + n ≡ suc (k + n) = omega arith in
      ap bare f ∙ ap (bare_on (bare (k + n))) (ap (λ s. s.waiting) same ∙ e) ∙ same

  one_end : (n m : ℕ) → (bare n).waiting ≡ [] → (bare m).waiting ≡ [] → bare n ≡ bare m
  one_end n m e f =
      elim (cases_lt n m) [
        | inl h ↦ (let g : m ≡ (m - n) + n = omega arith in sym (ap bare g ∙ rests n (m - n) e))
        | inr h ↦ (let g : n ≡ (n - m) + m = omega arith in ap bare g ∙ rests m (n - m) f)
      ]

  -- so many such steps lead to the state, but for what was taken
  abbrev Reached : State P → Type 0
  Reached s = (n : ℕ) × (untaken s ≡ bare n)

  reached_step : (s : State P) → Reached s → (x : P) (xs : List P) → s.waiting ≡ x ∷ xs → Reached (stepped t s x xs)
  reached_step s q x xs e =
      (suc q.0, ap (λ u. stepped t u x xs) q.1 ∙ ap (bare_on (bare q.0)) (sym e ∙ ap (λ u. u.waiting) q.1))

  reached_after : (us : List Turn) → Reached (after_turns t us)
  reached_after us =
      turns_keep t Reached (record { on_step = λ s q x xs e _. reached_step s q x xs e; on_take = λ s q r rs e. q }) us (opening t) (0, refl)

  -- two lists of turns after which nothing waits made the same records in as many steps
  pub same_end : (us vs : List Turn) → (after_turns t us).waiting ≡ [] → (after_turns t vs).waiting ≡ [] → untaken (after_turns t us) ≡ untaken (after_turns t vs)
  same_end us vs e f =
      let q = reached_after us in
      let r = reached_after vs in
      q.1 ∙ one_end q.0 r.0 (sym (ap (λ s. s.waiting) q.1) ∙ e) (sym (ap (λ s. s.waiting) r.1) ∙ f) ∙ sym r.1
