-- The layers, each a function from the meanings of its parts to a meaning.
use Rattle.std.specs.Prelude.{◌≡◌, ℕ, zero, suc, ◌+◌, ◌-◌, ◌<◌, true, false, not, ◌&&◌, ◌||◌, List, [], ◌∷◌, map, length, Some, None, count_by, Option, ◌==◌, ◌≢◌, nat_le, nat_lt}
use Rattle.domain.specs.Maps.{Maps}
use Rattle.contractor.specs.Meaning.{Meaning, meaning}

-- a map after an answer: nothing stays nothing
abbrev pub after : {P : Type 0} → (P → Option P) → Option P → Option P
after f None = None
after f (Some y) = f y

-- the pieces among a list of answers, in order
abbrev pub given : {P : Type 0} → List (Option P) → List P
given [] = []
given (None ∷ os) = given os
given (Some p ∷ os) = p ∷ given os

-- how many of a list of answers are nothing
abbrev pub nothings : {P : Type 0} → List (Option P) → ℕ
nothings [] = 0
nothings (None ∷ os) = suc (nothings os)
nothings (Some p ∷ os) = nothings os

-- how many members' sets have the point of number n
abbrev pub holders : {P : Type 0} → ℕ → List (Meaning P) → ℕ
holders n ms = count_by (λ m. m.set n) ms

-- what the members keep of x, and what they shed of it
abbrev pub all_kept : {P : Type 0} → List (Meaning P) → P → List (Option P)
all_kept ms x = map (λ m. m.keep x) ms

abbrev pub all_shed : {P : Type 0} → List (Meaning P) → P → List (Option P)
all_shed ms x = map (λ m. m.shed x) ms

-- x, f x, f (f x) and so on: the k-th of them
abbrev pub turned : {P : Type 0} → (P → Option P) → ℕ → Option P → Option P
turned f zero o = o
turned f (suc k) o = turned f k (after f o)

-- r is the first of x, f x, f (f x) and so on that the next call leaves alike. Nothing is left alike
-- once it comes, since nothing stays nothing.
pub record Settles {P : Type 0} (f : P → Option P) (x : P) (r : Option P) : Type 0 where
  pub turns : ℕ
  pub reached : turned f turns (Some x) ≡ r
  pub alike : after f r ≡ r
  pub first : (k : ℕ) → k < turns → after f (turned f k (Some x)) ≢ turned f k (Some x)

module _ {P : Type 0} (d : Maps P) where
  abbrev pub both : Meaning P → Meaning P → Meaning P
  both a b =
      meaning (λ n. a.set n && b.set n)
      (λ x. after b.keep (a.keep x))
      (λ x. d.span x (a.shed x) (b.shed x))

  abbrev pub either : Meaning P → Meaning P → Meaning P
  either a b =
      meaning (λ n. a.set n || b.set n)
      (λ x. d.span x (a.keep x) (b.keep x))
      (λ x. after b.shed (a.shed x))

  -- nothing where more than `most` of the answers are nothing; else what at least k of the others hold, in x
  abbrev pub gathered : P → List (Option P) → ℕ → ℕ → Option P
  gathered x os most k = elim (nat_lt most (nothings os)) [ true ↦ None | false ↦ d.gather x (given os) k ]

  -- the points that all members hold but for at most q
  abbrev pub relaxed : ℕ → List (Meaning P) → Meaning P
  relaxed q ms =
      meaning (λ n. nat_le (length ms - q) (holders n ms))
      (λ x. gathered x (all_kept ms x) q (length ms - q))
      (λ x. gathered x (all_shed ms x) (length ms - q - 1) (q + 1))

  -- at most so many calls of f, until one leaves the count of points as it is
  abbrev pub settled : (P → Option P) → ℕ → P → Option P
  settled f zero x = Some x
  settled f (suc k) x = elim (f x) [ None ↦ None | Some y ↦ elim (d.count y == d.count x) [ true ↦ Some x | false ↦ settled f k y ] ]

  -- each call that changes something gives up a point, so there are fewer than x has points
  abbrev pub fixed : Meaning P → Meaning P
  fixed a = meaning a.set (λ x. settled a.keep (d.count x) x) (λ x. settled a.shed (d.count x) x)

-- a contractor's complement
abbrev pub opposite : {P : Type 0} → Meaning P → Meaning P
opposite a = meaning (λ n. not (a.set n)) a.shed a.keep
