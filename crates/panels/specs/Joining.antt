-- Two panels joined.
use Rattle.std.specs.Prelude.{◌+◌, ◌≤◌, List, [], ◌∷◌, ◌++◌, length}
use Rattle.std.proofs.Common.{arith}
use Rattle.std.specs.List.{AllByRecursion}
use Rattle.std.proofs.lemmas.List.{length-append}

module _ {X : Type 0} where
  pub joined_sound : (xs ys : List X) (Q : X → Type 0) → AllByRecursion Q xs → AllByRecursion Q ys → AllByRecursion Q (xs ++ ys)
  joined_sound [] ys Q a b = b
  joined_sound (x ∷ xs) ys Q a b = (a.0, joined_sound xs ys Q a.1 b)

  pub joined_few : (xs ys : List X) → length xs + length ys ≤ 16 → length (xs ++ ys) ≤ 16
  joined_few xs ys h = omega (arith, length-append xs ys)
