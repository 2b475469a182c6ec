-- How many readings hold a point.
use Rattle.std.proofs.Common.{◌≡◌, ℕ, ◌+◌, ◌-◌, cond, List, [], ◌∷◌, map, length, fold, refl, arith}
use Rattle.std.proofs.ByRecursion.{All-weaker}
use Rattle.std.proofs.lemmas.List.{length-map}
use Rattle.std.proofs.lemmas.Bool.{leb-true, leb-false}
use Rattle.domain.specs.Maps.{Maps}
use Rattle.contractor.specs.Layers.{holders}
use Rattle.contractor.specs.Meaning.{Meaning}
use Rattle.paving.specs.Laws.{AllOf, NoneOf}
use Rattle.readings.specs.Files.{Meant}
use Rattle.survey.specs.Grounds.{held_by, Held, Unheld, Told}
use Rattle.survey.specs.Texts.{layered, Paving}

-- what is added up over what each means is added up over the readings
folded_map : {X Y : Type 0} (f : X → Y) (g : ℕ → Y → ℕ) (a : ℕ) (xs : List X) → fold g a (map f xs) ≡ fold (λ b x. g b (f x)) a xs
folded_map f g a [] = refl
folded_map f g a (x ∷ xs) = folded_map f g (g a (f x)) xs

module _ {P R : Type 0} (d : Maps P) (each : R → Meaning P) (m : Meant P R) where
  held : (n : ℕ) → holders n (map each m.readings) ≡ held_by d each m n
  held n = folded_map each (λ a x. a + cond (x.set n) 1 0) 0 m.readings

  all_held : (p : P) → AllOf d (layered d each m).set p → Held d each m p
  all_held p h n e =
      omega (arith, leb-true (length (map each m.readings) - m.liars) (holders n (map each m.readings)) (h n e), held n, length-map m.readings each)

  none_held : (p : P) → NoneOf d (layered d each m).set p → Unheld d each m p
  none_held p h n e =
      omega (arith, leb-false (length (map each m.readings) - m.liars) (holders n (map each m.readings)) (h n e), held n, length-map m.readings each)

  pub told : (shown : P → List ℕ) (text : List ℕ) → Paving d each shown m text → Told d each m shown text
  told shown text l =
      record {
        ground = l.ground;
        inside_held = All-weaker (AllOf d (layered d each m).set) (Held d each m) all_held _ l.ground.inside_all;
        outside_unheld = All-weaker (NoneOf d (layered d each m).set) (Unheld d each m) none_held _ l.ground.outside_none;
      }
