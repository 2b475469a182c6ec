-- What entering a reading into a draft does: the readings are the front of the lent memory.
use Rattle.std.specs.Prelude.{◌≡◌, ℕ, ◌+◌, ◌<◌, ◌⊎◌, List, [], ◌∷◌, ◌++◌, length, take, drop, Result, MatchResult}
use Rattle.domain.specs.declared.refusal.Refusal.{Refusal}
use Rattle.domain.specs.Refusals.{code}

-- The reading is the next one, and the rest of the memory is as it was. There were n readings, and then m.
pub record Taken {R : Type 0} (before : List R) (n : ℕ) (reading : R) (after : List R) (m : ℕ) : Type 0 where
  pub room : n < 16
  pub space : n < length before
  pub count : m ≡ n + 1
  pub next : take m after ≡ take n before ++ reading ∷ []
  pub rest : drop m after ≡ drop m before

-- Draft and memory are as they were. Sixteen readings are told first, and then memory that is full.
pub record NotTaken {R : Type 0} (before : List R) (n : ℕ) (e : Refusal) (after : List R) (m : ℕ) : Type 0 where
  pub full : ((n ≡ 16) × (code e ≡ 6)) ⊎ ((n < 16) × (n ≡ length before) × (code e ≡ 7))
  pub memory : after ≡ before
  pub count : m ≡ n

abbrev pub Entered : {R X : Type 0} → List R → ℕ → R → Result X Refusal → List R → ℕ → Type 0
Entered before n reading r after m = MatchResult r (λ _. Taken before n reading after m) (λ e. NotTaken before n e after m)
