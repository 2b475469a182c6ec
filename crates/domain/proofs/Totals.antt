-- What follows from the laws for every domain: sums over parts, and what a count tells.
use Rattle.std.proofs.Common.{◌≡◌, ℕ, zero, suc, ◌+◌, ◌^◌, ◌<◌, ◌≤◌, Bool, true, false, cond, List, [], ◌∷◌, ◌++◌, length, sym, refl, ◌∙◌, inl, inr, arith}
use Rattle.std.specs.List.{AllByRecursion}
use Rattle.std.proofs.lemmas.List.Sums.{sum_by-cons, sum_by-append}
use Rattle.std.proofs.lemmas.Bool.{cases_lt, cases_Bool}
use Rattle.std.proofs.lemmas.Nat.{pow_pos}
use Rattle.scan.specs.Count.{bit, sum_below}
use Rattle.scan.proofs.Counting.{sum_ext, sum_mono, sum_add, sum_zero, bit_true, bit_false}
use native.Mathlib.Nat.{pow-succ'}
use Rattle.domain.specs.Laws.{Laws, Consequences}
use Rattle.domain.specs.Maps.{Maps, points, times, total, Parts, Inside}

cond_bit : (b : Bool) → cond b 1 0 ≡ bit b
cond_bit true = refl
cond_bit false = refl

-- a fact that carries over from one test to another
bit_mono : (a b : Bool) → (a ≡ true → b ≡ true) → bit a ≤ bit b
bit_mono true b h = omega (arith, bit_true b (h refl))
bit_mono false b h = omega arith

module _ {P : Type 0} (d : Maps P) where
  pub times_cons : (n : ℕ) (p : P) (ps : List P) → times d n (p ∷ ps) ≡ bit (d.holds p n) + times d n ps
  times_cons n p ps = omega (arith, sum_by-cons (λ q. cond (d.holds q n) 1 0) p ps, cond_bit (d.holds p n))

  pub total_cons : (p : P) (ps : List P) → total d (p ∷ ps) ≡ d.count p + total d ps
  total_cons p ps = sum_by-cons d.count p ps

  pub times_append : (n : ℕ) (ps qs : List P) → times d n (ps ++ qs) ≡ times d n ps + times d n qs
  times_append n = sum_by-append (λ q. cond (d.holds q n) 1 0)

  pub times_single : (n : ℕ) (p : P) → times d n (p ∷ []) ≡ bit (d.holds p n)
  times_single n p = omega (arith, times_cons n p [])

  -- what holds of every point that some listed piece holds
  pub all_by_times : (Q : ℕ → Type 0) (ps : List P) → ((n : ℕ) → 0 < times d n ps → Q n) → AllByRecursion (λ p. (n : ℕ) → d.holds p n ≡ true → Q n) ps
  all_by_times Q [] f = tt
  all_by_times Q (p ∷ ps) f = (
    (λ n h. f n (omega (arith, times_cons n p ps, bit_true (d.holds p n) h))),
    all_by_times Q ps (λ n h. f n (omega (arith, times_cons n p ps))),
  )

  pub times_by_all : (Q : ℕ → Type 0) (ps : List P) → AllByRecursion (λ p. (n : ℕ) → d.holds p n ≡ true → Q n) ps → (n : ℕ) → 0 < times d n ps → Q n
  times_by_all Q [] a n h = absurd (omega arith)
  times_by_all Q (p ∷ ps) a n h =
      elim (cases_Bool (d.holds p n)) [
        | inl e ↦ a.0 n e
        | inr e ↦ times_by_all Q ps a.1 n (omega (arith, times_cons n p ps, bit_false (d.holds p n) e))
      ]

  -- a point that a listed sub-piece of x holds is held by x
  pub times_held : (x : P) (n : ℕ) → ((q : P) → d.within q x ≡ true → d.holds q n ≡ true → d.holds x n ≡ true) → (ps : List P) → Inside d x ps → 0 < times d n ps → d.holds x n ≡ true
  times_held x n held [] a h = absurd (omega arith)
  times_held x n held (p ∷ ps) a h =
      elim (cases_Bool (d.holds p n)) [
        | inl e ↦ held p a.0 e
        | inr e ↦ times_held x n held ps a.1 (omega (arith, times_cons n p ps, bit_false (d.holds p n) e))
      ]

module _ {P : Type 0} (d : Maps P) (l : Laws d) where
  -- the points of a list of pieces, counted point by point
  pub times_total : (ps : List P) → sum_below (λ n. times d n ps) points ≡ total d ps
  times_total [] = sum_zero points
  times_total (p ∷ ps) =
      sum_ext (λ n. times d n (p ∷ ps)) (λ n. bit (d.holds p n) + times d n ps) points (λ n _. times_cons d n p ps)
      ∙ sum_add (λ n. bit (d.holds p n)) (λ n. times d n ps) points
      ∙ omega (arith, l.counted p, times_total ps, total_cons d p ps)

  -- disjoint pieces that make up p have its points
  pub total_parts : (p : P) (ps : List P) → Parts d p ps → total d ps ≡ d.count p
  total_parts p ps h =
      sym (times_total ps)
      ∙ sum_ext (λ n. times d n ps) (λ n. bit (d.holds p n)) points (λ n _. h n)
      ∙ sym (l.counted p)

  pub count_within : (q p : P) → d.within q p ≡ true → d.count q ≤ d.count p
  count_within q p w =
      omega (arith, l.counted q, l.counted p, sum_mono (λ n. bit (d.holds q n)) (λ n. bit (d.holds p n)) points (λ n _. bit_mono (d.holds q n) (d.holds p n) (l.held q p w n)))

  -- a single point has no smaller sub-piece
  pub alone : (q p : P) → d.within q p ≡ true → d.count p ≡ 1 → q ≡ p
  alone q p w e = l.whole q p w (omega (arith, count_within q p w, l.some q))

  pub halves_total : (p : P) → 1 < d.count p → d.count (d.halves p).0 + d.count (d.halves p).1 ≡ d.count p
  halves_total p h =
      omega (arith, total_parts p ((d.halves p).0 ∷ (d.halves p).1 ∷ []) (l.halved p h), total_cons d (d.halves p).0 ((d.halves p).1 ∷ []), total_cons d (d.halves p).1 [])

  pub strips_total : (p q : P) → d.within q p ≡ true → d.count q + total d (d.strips p q) ≡ d.count p
  strips_total p q w = omega (arith, total_parts p (q ∷ d.strips p q) (l.stripped p q w), total_cons d q (d.strips p q))

  -- halving ends: a piece of height h has at most 2 ^ h points
  pub count_height : (h : ℕ) (p : P) → d.height p ≤ h → d.count p ≤ 2 ^ h
  count_height zero p b =
      elim (cases_lt 1 (d.count p)) [ inl h ↦ absurd (omega (arith, (l.height_halves p h).0)) | inr h ↦ omega arith ]
  count_height (suc k) p b =
      elim (cases_lt 1 (d.count p)) [
        | inl h ↦
            let low = count_height k (d.halves p).0 (omega (arith, (l.height_halves p h).0)) in
            let high = count_height k (d.halves p).1 (omega (arith, (l.height_halves p h).1)) in
            omega (arith, low, high, halves_total p h, pow-succ' 2 k)
        | inr h ↦ omega (arith, pow_pos (suc k))
      ]

  pub count_most : (p : P) → d.count p ≤ 2 ^ 24
  count_most p = count_height 24 p (l.height_most p)

  -- each piece has a point
  pub length_total : (ps : List P) → length ps ≤ total d ps
  length_total [] = omega arith
  length_total (p ∷ ps) = omega (arith, total_cons d p ps, l.some p, length_total ps)

  pub consequences : Consequences d
  consequences = record {
    parts = total_parts;
    halves = halves_total;
    strips = strips_total;
    fewer = count_within;
    alone = alone;
    most = λ p. count_height (d.height p) p (omega arith);
  }
