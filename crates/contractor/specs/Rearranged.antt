-- When two contractors are rearranged: the same maps, or the same layer over rearranged parts.
use Rattle.std.specs.Prelude.{◌≡◌, ℕ, ◌<◌, List, [], ◌∷◌, ◌++◌, length}
use Rattle.std.specs.List.{AllByRecursion}
use Rattle.domain.specs.Maps.{Maps}
use Rattle.contractor.specs.Layers.{both, either, opposite, relaxed, fixed}
use Rattle.contractor.specs.Meaning.{Meaning, Sound}

-- the same two maps
pub record Alike {P : Type 0} (a b : Meaning P) : Type 0 where
  pub keep : (x : P) → a.keep x ≡ b.keep x
  pub shed : (x : P) → a.shed x ≡ b.shed x

mutual
  pub data Rearranged {P : Type 0} (d : Maps P) : Meaning P → Meaning P → Type 0 where
    same : {a b : Meaning P} → Alike a b → Rearranged d a b
    both_of : {a b c e : Meaning P} → Rearranged d a b → Rearranged d c e → Rearranged d (both d a c) (both d b e)
    either_of : {a b c e : Meaning P} → Rearranged d a b → Rearranged d c e → Rearranged d (either d a c) (either d b e)
    not_of : {a b : Meaning P} → Rearranged d a b → Rearranged d (opposite a) (opposite b)
    fixed_of : {a b : Meaning P} → Rearranged d a b → Rearranged d (fixed d a) (fixed d b)
    -- one q; the members are contractors, and pair off one to one, in any order
    relaxed_of : {q : ℕ} {ms ns : List (Meaning P)} → q < length ms → AllByRecursion (Sound d) ms → AllByRecursion (Sound d) ns → Paired d ms ns → Rearranged d (relaxed d q ms) (relaxed d q ns)

  -- the first member is rearranged with one of the others, wherever that stands, and the rest pair off
  pub data Paired {P : Type 0} (d : Maps P) : List (Meaning P) → List (Meaning P) → Type 0 where
    none : Paired d [] []
    one : {a b : Meaning P} {ms : List (Meaning P)} (front back : List (Meaning P)) → Rearranged d a b → Paired d ms (front ++ back) → Paired d (a ∷ ms) (front ++ b ∷ back)
