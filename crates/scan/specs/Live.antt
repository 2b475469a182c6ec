-- The first and the last index of a range at which a test holds, and the run between them.
use Rattle.std.specs.Prelude.{◌≡◌, ℕ, zero, suc, ◌+◌, ◌<◌, ◌≤◌, Bool, true, false, Some, None, Option, MatchOption}
use Rattle.scan.specs.declared.stretch.Stretch.{Stretch}

-- no index from a up to, and not with, b passes the test
abbrev pub Dead : (ℕ → Bool) → ℕ → ℕ → Type 0
Dead p a b = (i : ℕ) → a ≤ i → i < b → p i ≡ false

-- r is the first index from a up to b that passes, if there is one
abbrev pub First : (ℕ → Bool) → ℕ → ℕ → Option ℕ → Type 0
First p a b r = MatchOption r (Dead p a b) (λ i. (a ≤ i) × (i < b) × (p i ≡ true) × Dead p a i)

-- r is the last index from a up to b that passes, if there is one
abbrev pub Last : (ℕ → Bool) → ℕ → ℕ → Option ℕ → Type 0
Last p a b r = MatchOption r (Dead p a b) (λ i. (a ≤ i) × (i < b) × (p i ≡ true) × Dead p (suc i) b)

-- the first of the w indices from a that passes
unfoldable pub first_live : (ℕ → Bool) → ℕ → ℕ → Option ℕ
first_live p a zero = None
first_live p a (suc w) = elim (p a) [ true ↦ Some a | false ↦ first_live p (suc a) w ]

-- the last of the w indices from a that passes
unfoldable pub last_live : (ℕ → Bool) → ℕ → ℕ → Option ℕ
last_live p a zero = None
last_live p a (suc w) = elim (p (a + w)) [ true ↦ Some (a + w) | false ↦ last_live p a w ]

-- the stretch between two indices, where there are both
abbrev pub between : Option ℕ → Option ℕ → Option Stretch
between None high = None
between (Some low) None = None
between (Some low) (Some high) = Some (record { low = low; high = high })

-- from the first to the last of the w indices from a that pass; nothing if none does
unfoldable pub run : (ℕ → Bool) → ℕ → ℕ → Option Stretch
run p a w = between (first_live p a w) (last_live p a w)

-- r is the run from a up to b, by what a run is: both its ends pass, and every index that passes lies on it
abbrev pub Runs : (ℕ → Bool) → ℕ → ℕ → Option Stretch → Type 0
Runs p a b r =
    MatchOption r (Dead p a b)
    (λ s. (a ≤ s.low) × (s.low ≤ s.high) × (s.high < b) × (p s.low ≡ true) × (p s.high ≡ true) × ((i : ℕ) → a ≤ i → i < b → p i ≡ true → (s.low ≤ i) × (i ≤ s.high)))
