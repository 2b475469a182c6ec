-- The members of a panel, by number.
use Rattle.std.specs.Prelude.{◌≡◌, ℕ, List, Option}
use Rattle.std.specs.List.{HoldsAt}
use Rattle.contractor.specs.Meaning.{Meaning}

-- o is what the k-th member keeps of x
abbrev pub Kept : {P : Type 0} → List (Meaning P) → ℕ → P → Option P → Type 0
Kept ms k x o = HoldsAt (λ m. o ≡ m.keep x) ms k

-- o is what the k-th member sheds of x
abbrev pub Shed : {P : Type 0} → List (Meaning P) → ℕ → P → Option P → Type 0
Shed ms k x o = HoldsAt (λ m. o ≡ m.shed x) ms k
