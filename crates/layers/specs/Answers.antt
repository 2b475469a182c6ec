-- What calls by number answer.
use Rattle.std.specs.Prelude.{◌≡◌, ℕ, ◌<◌, List, length, Result, MatchResult}
use Rattle.std.specs.List.{HoldsAt}
use Rattle.domain.specs.declared.refusal.Refusal.{Refusal}

-- a call with a number below n is answered, by what V says
abbrev pub Answered : {X : Type 0} → (ℕ → Result X Refusal → Type 0) → ℕ → (ℕ → X → Type 0) → Type 0
Answered {X} calls n V = (k : ℕ) (r : Result X Refusal) → k < n → calls k r → MatchResult r (V k) (λ e. ⊥)

-- these are the answers, in order
abbrev pub Told : {X : Type 0} → (ℕ → Result X Refusal → Type 0) → ℕ → List X → Type 0
Told calls n os = (length os ≡ n) × Answered calls n (λ k o. HoldsAt (λ a. o ≡ a) os k)
