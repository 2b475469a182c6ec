-- Readings as the members of a panel.
use Rattle.std.specs.Prelude.{ℕ, ◌≤◌, List, [], ◌∷◌, map, length, take}
use Rattle.std.proofs.Common.{arith}
use Rattle.std.specs.List.{AllByRecursion}
use Rattle.std.proofs.lemmas.List.{length-map, length-take}

-- what holds of what each reading means holds of all members
pub all_readings : {X Y : Type 0} (Q : Y → Type 0) (f : X → Y) → ((x : X) → Q (f x)) → (xs : List X) → AllByRecursion Q (map f xs)
all_readings Q f h [] = tt
all_readings Q f h (x ∷ xs) = (h x, all_readings Q f h xs)

pub few_readings : {X Y : Type 0} (f : X → Y) (n : ℕ) (xs : List X) → n ≤ 16 → length (map f (take n xs)) ≤ 16
few_readings f n xs h = omega (arith, length-map (take n xs) f, length-take n xs)
