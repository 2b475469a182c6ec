-- Numbers between commas, and bytes cut in two at the first of one kind.
use Rattle.std.specs.Prelude.{◌≡◌, ℕ, List, [], ◌∷◌, ◌++◌, length, ℤ, FitsSigned, ◌≢◌}
use Rattle.std.specs.Int.{w32}
use Rattle.std.specs.List.{All}
use Rattle.std.specs.Fmt.{signed_decimal}

-- none of the bytes is b
abbrev pub Without : ℕ → List ℕ → Type 0
Without b xs = All (λ x. x ≢ b) xs

-- the first b of some bytes stands between these two parts
pub record Cut (b : ℕ) (xs front back : List ℕ) : Type 0 where
  pub parts : xs ≡ front ++ b ∷ back
  pub first : Without b front

-- decimals, each but the last followed by a comma
abbrev pub listed : List ℤ → List ℕ
listed [] = []
listed (z ∷ []) = signed_decimal z
listed (z ∷ y ∷ zs) = signed_decimal z ++ 44 ∷ listed (y ∷ zs)

-- the text writes so many numbers of 32 signed bits, these
pub record Lists (n : ℕ) (text : List ℕ) (zs : List ℤ) : Type 0 where
  pub count : length zs ≡ n
  pub fit : All (FitsSigned w32) zs
  pub written : text ≡ listed zs
