-- What is proved of layers and of rearranged contractors, over every domain.
use Rattle.std.specs.Prelude.{◌≡◌, ℕ, ◌-◌, ◌<◌, true, ◌⊎◌, List, [], ◌∷◌, length, Decides, Option}
use Rattle.std.specs.List.{AllByRecursion}
use Rattle.std.specs.List.Sorted.{IsPermutation}
use Rattle.domain.specs.Maps.{Maps}
use Rattle.contractor.specs.Layers.{after, Settles, both, either, opposite, relaxed, fixed}
use Rattle.contractor.specs.Meaning.{Meaning, Sound}
use Rattle.contractor.specs.Rearranged.{Alike, Rearranged, Paired}

-- A layer over contractors is a contractor.
pub record LayersSound {P : Type 0} (d : Maps P) : Type 0 where
  pub both_is : (a b : Meaning P) → Sound d a → Sound d b → Sound d (both d a b)
  pub either_is : (a b : Meaning P) → Sound d a → Sound d b → Sound d (either d a b)
  pub not_is : (a : Meaning P) → Sound d a → Sound d (opposite a)
  pub relaxed_is : (q : ℕ) (ms : List (Meaning P)) → q < length ms → AllByRecursion (Sound d) ms → Sound d (relaxed d q ms)
  pub fixed_is : (a : Meaning P) → Sound d a → Sound d (fixed d a)

-- What Fixed gives is the first that the next call leaves alike, and nothing else is.
pub record FixedSettles {P : Type 0} (d : Maps P) : Type 0 where
  pub keep_settles : (a : Meaning P) → Sound d a → (x : P) → Settles a.keep x ((fixed d a).keep x)
  pub shed_settles : (a : Meaning P) → Sound d a → (x : P) → Settles a.shed x ((fixed d a).shed x)
  pub once : (f : P → Option P) (x : P) (r s : Option P) → Settles f x r → Settles f x s → r ≡ s

-- Rearranged contractors have the same maps.
abbrev pub RearrangedAlike : {P : Type 0} → Maps P → Type 0
RearrangedAlike {P} d = (a b : Meaning P) → Rearranged d a b → Alike a b

-- The same members in another order pair off.
abbrev pub ShuffledPaired : {P : Type 0} → Maps P → Type 0
ShuffledPaired {P} d = (ms ns : List (Meaning P)) → IsPermutation ms ns → Paired d ms ns

-- P holds of one of the listed
abbrev pub Any : {X : Type 0} → (X → Type 0) → List X → Type 0
Any P [] = ⊥
Any P (x ∷ xs) = P x ⊎ Any P xs

-- What makes the layers worth having.
pub record LayerFacts {P : Type 0} (d : Maps P) : Type 0 where
  -- with no liar allowed, the points that all members hold; with all but one, those that some member holds
  pub relaxed_all : (ms : List (Meaning P)) (n : ℕ) → Decides ((relaxed d 0 ms).set n) (AllByRecursion (λ m. m.set n ≡ true) ms)
  pub relaxed_any : (ms : List (Meaning P)) (n : ℕ) → 0 < length ms → Decides ((relaxed d (length ms - 1) ms).set n) (Any (λ m. m.set n ≡ true) ms)
  -- the order in which members stand is nothing to Relaxed
  pub relaxed_order : (q : ℕ) (ms ns : List (Meaning P)) → q < length ms → AllByRecursion (Sound d) ms → IsPermutation ms ns → Rearranged d (relaxed d q ms) (relaxed d q ns)
  pub not_twice : (a : Meaning P) → Alike (opposite (opposite a)) a
  -- another call leaves Fixed's answers alike
  pub keep_alike : (a : Meaning P) → Sound d a → (x : P) → after a.keep ((fixed d a).keep x) ≡ (fixed d a).keep x
  pub shed_alike : (a : Meaning P) → Sound d a → (x : P) → after a.shed ((fixed d a).shed x) ≡ (fixed d a).shed x
