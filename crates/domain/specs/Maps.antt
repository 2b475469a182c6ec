-- The maps of a domain over its pieces P. A point is known by its number.
use Rattle.std.specs.Prelude.{◌≡◌, ℕ, ◌^◌, Bool, true, List, [], ◌∷◌, ◌++◌, IfSome, Some, None, sum_by, count_by, Option, MatchOption}
use Rattle.std.specs.List.{AllByRecursion}
use Rattle.std.specs.Option.{option_to_list}
use Rattle.scan.specs.Count.{bit}
use Rattle.domain.specs.declared.strip_slots.Strips.{Strips}

pub record Maps (P : Type 0) : Type 0 where
  -- whether a piece holds the point of a number
  pub holds : P → ℕ → Bool
  -- how many points a piece has
  pub count : P → ℕ
  pub size : P → ℕ
  -- a piece's number, and the piece of a number, if it is one's
  pub number : P → ℕ
  pub piece : ℕ → Option P
  -- whether the first is a sub-piece of the second
  pub within : P → P → Bool
  -- the low and the high half of a piece of more than one point
  pub halves : P → P × P
  -- the first without its sub-piece, the second
  pub strips : P → P → List P
  -- in the first, the smallest that holds two of its sub-pieces, either of which may be nothing
  pub span : P → Option P → Option P → Option P
  -- in the first, what at least so many of a list of its sub-pieces hold
  pub gather : P → List P → ℕ → Option P
  pub height : P → ℕ

-- point numbers are below this
abbrev pub points : ℕ
points = 2 ^ 32

-- the strips that are there, in order
abbrev pub listed : {P : Type 0} → Strips P → List P
listed s = option_to_list s.first ++ (option_to_list s.second ++ (option_to_list s.third ++ option_to_list s.fourth))

-- a piece in front of others, where they are there
abbrev pub joined : {P : Type 0} → Option P → Option (List P) → Option (List P)
joined None o = None
joined (Some p) None = None
joined (Some p) (Some ps) = Some (p ∷ ps)

module _ {P : Type 0} (d : Maps P) where
  -- how many of the listed pieces hold the point of number n
  abbrev pub times : ℕ → List P → ℕ
  times n ps = count_by (λ p. d.holds p n) ps

  -- the points of the listed pieces, added up
  abbrev pub total : List P → ℕ
  total ps = sum_by d.count ps

  -- every point of p lies in exactly one of the listed pieces, and no other point in any
  abbrev pub Parts : P → List P → Type 0
  Parts p ps = (n : ℕ) → times n ps ≡ bit (d.holds p n)

  -- all of the listed pieces are sub-pieces of x
  abbrev pub Inside : P → List P → Type 0
  Inside x ps = AllByRecursion (λ p. d.within p x ≡ true) ps

  -- nothing, or a sub-piece of x
  abbrev pub Fits : P → Option P → Type 0
  Fits x o = IfSome o (λ p. d.within p x ≡ true)

  -- nothing, or a piece that holds the point of number n
  abbrev pub Holds : Option P → ℕ → Type 0
  Holds o n = MatchOption o ⊥ (λ p. d.holds p n ≡ true)

  -- the pieces of a list of numbers, if each is a piece's
  abbrev pub pieces : List ℕ → Option (List P)
  pieces [] = Some []
  pieces (n ∷ ns) = joined (d.piece n) (pieces ns)

  -- n is the number of a sub-piece of x
  abbrev pub Member : P → ℕ → Type 0
  Member x n = MatchOption (d.piece n) ⊥ (λ p. d.within p x ≡ true)

  -- each number of a list is that of a sub-piece of x
  abbrev pub Members : P → List ℕ → Type 0
  Members x ns = MatchOption (pieces ns) ⊥ (λ ps. Inside x ps)

  -- o is what at least k of the pieces so numbered hold, in x
  abbrev pub Gathered : P → List ℕ → ℕ → Option P → Type 0
  Gathered x ns k o = MatchOption (pieces ns) ⊥ (λ ps. o ≡ d.gather x ps k)

  -- o is the smallest sub-piece of x that holds every point of Q, and nothing where Q has none
  abbrev pub Smallest : P → (ℕ → Type 0) → Option P → Type 0
  Smallest x Q o =
      MatchOption o ((n : ℕ) → Q n → ⊥)
      (λ s. (d.within s x ≡ true) × ((n : ℕ) → Q n → d.holds s n ≡ true) × ((t : P) → d.within t x ≡ true → ((n : ℕ) → Q n → d.holds t n ≡ true) → d.within s t ≡ true))
