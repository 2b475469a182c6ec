-- What any domain must show of its maps.
use Rattle.std.specs.Prelude.{◌≡◌, ℕ, ◌+◌, ◌^◌, ◌<◌, ◌≤◌, true, List, [], ◌∷◌, length, Some, None, MatchOption}
use Rattle.std.specs.List.Sorted.{IsPermutation}
use Rattle.scan.specs.Count.{count_below}
use Rattle.domain.specs.Maps.{Maps, points, times, total, Parts, Inside, Fits, Holds}

pub record Laws {P : Type 0} (d : Maps P) : Type 0 where
  -- a count is the number of points held, and there is at least one
  pub counted : (p : P) → d.count p ≡ count_below (d.holds p) points
  pub some : (p : P) → 0 < d.count p
  -- sub-pieces
  pub reflexive : (p : P) → d.within p p ≡ true
  pub transitive : (p q r : P) → d.within p q ≡ true → d.within q r ≡ true → d.within p r ≡ true
  pub held : (q p : P) → d.within q p ≡ true → (n : ℕ) → d.holds q n ≡ true → d.holds p n ≡ true
  pub whole : (q p : P) → d.within q p ≡ true → d.count q ≡ d.count p → q ≡ p
  -- numbers
  pub numbered : (p : P) → d.piece (d.number p) ≡ Some p
  pub named : (n : ℕ) (p : P) → d.piece n ≡ Some p → d.number p ≡ n
  -- sizes
  pub single : (p : P) → d.count p ≡ 1 → d.size p ≡ 1
  pub larger : (p : P) → 1 < d.count p → 1 < d.size p
  -- halves
  pub halved : (p : P) → 1 < d.count p → Parts d p ((d.halves p).0 ∷ (d.halves p).1 ∷ [])
  pub halves_within : (p : P) → 1 < d.count p → Inside d p ((d.halves p).0 ∷ (d.halves p).1 ∷ [])
  -- strips
  pub stripped : (p q : P) → d.within q p ≡ true → Parts d p (q ∷ d.strips p q)
  pub strips_within : (p q : P) → d.within q p ≡ true → Inside d p (d.strips p q)
  pub strips_few : (p q : P) → d.within q p ≡ true → length (d.strips p q) ≤ 4
  -- spans
  pub span_within : (x p q : P) → d.within p x ≡ true → d.within q x ≡ true → MatchOption (d.span x (Some p) (Some q)) ⊥ (λ s. (d.within s x ≡ true) × (d.within p s ≡ true) × (d.within q s ≡ true))
  pub span_left : (x p : P) → d.within p x ≡ true → d.span x (Some p) None ≡ Some p
  pub span_right : (x p : P) → d.within p x ≡ true → d.span x None (Some p) ≡ Some p
  pub span_none : (x : P) → d.span x None None ≡ None
  -- gatherings
  pub gather_within : (x : P) (ps : List P) (k : ℕ) → 0 < k → Inside d x ps → Fits d x (d.gather x ps k)
  pub gather_holds : (x : P) (ps : List P) (k : ℕ) → 0 < k → Inside d x ps → (n : ℕ) → k ≤ times d n ps → Holds d (d.gather x ps k) n
  pub gather_few : (x : P) (ps : List P) (k : ℕ) → Inside d x ps → length ps < k → d.gather x ps k ≡ None
  pub gather_order : (x : P) (ps qs : List P) (k : ℕ) → 0 < k → Inside d x ps → IsPermutation ps qs → d.gather x ps k ≡ d.gather x qs k
  -- heights
  pub height_most : (p : P) → d.height p ≤ 24
  pub height_within : (q p : P) → d.within q p ≡ true → d.height q ≤ d.height p
  pub height_halves : (p : P) → 1 < d.count p → (d.height (d.halves p).0 < d.height p) × (d.height (d.halves p).1 < d.height p)

-- What follows from the laws, for every domain.
pub record Consequences {P : Type 0} (d : Maps P) : Type 0 where
  -- disjoint pieces that make up another have its points between them
  pub parts : (p : P) (ps : List P) → Parts d p ps → total d ps ≡ d.count p
  pub halves : (p : P) → 1 < d.count p → d.count (d.halves p).0 + d.count (d.halves p).1 ≡ d.count p
  pub strips : (p q : P) → d.within q p ≡ true → d.count q + total d (d.strips p q) ≡ d.count p
  -- a sub-piece has no more points than the piece, and a piece of one point no sub-piece but itself
  pub fewer : (q p : P) → d.within q p ≡ true → d.count q ≤ d.count p
  pub alone : (q p : P) → d.within q p ≡ true → d.count p ≡ 1 → q ≡ p
  -- a piece of height h has at most 2 ^ h points
  pub most : (p : P) → d.count p ≤ 2 ^ d.height p
