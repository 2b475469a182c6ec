-- How many of a list of stretches hold an index.
use Rattle.std.specs.Prelude.{◌≡◌, ℕ, ◌<◌, ◌≤◌, Bool, true, false, ◌&&◌, List, count_by, Option, MatchOption, nat_le}
use Rattle.std.specs.List.{AllByRecursion}
use Rattle.scan.specs.declared.stretch.Stretch.{Stretch}

abbrev pub covers : Stretch → ℕ → Bool
covers s i = nat_le s.low i && nat_le i s.high

abbrev pub depth : List Stretch → ℕ → ℕ
depth ss i = count_by (λ s. covers s i) ss

-- at least k of them hold it
abbrev pub deep : ℕ → List Stretch → ℕ → Bool
deep k ss i = nat_le k (depth ss i)

-- all of them end below b
abbrev pub Below : ℕ → List Stretch → Type 0
Below b ss = AllByRecursion (λ s. s.high < b) ss

-- of the listed indices that pass a test, r is the smallest, if there is one
abbrev pub Earliest : (ℕ → Bool) → List ℕ → Option ℕ → Type 0
Earliest t es r = MatchOption r (AllByRecursion (λ i. t i ≡ false) es) (λ e. (t e ≡ true) × AllByRecursion (λ i. t i ≡ true → e ≤ i) es)

-- of the listed indices that pass a test, r is the largest, if there is one
abbrev pub Latest : (ℕ → Bool) → List ℕ → Option ℕ → Type 0
Latest t es r = MatchOption r (AllByRecursion (λ i. t i ≡ false) es) (λ e. (t e ≡ true) × AllByRecursion (λ i. t i ≡ true → i ≤ e) es)
