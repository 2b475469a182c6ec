-- A sub-piece of an arc is a stretch of the arc's own order.
use Rattle.std.specs.Prelude.{◌≡◌, ℕ, ◌+◌, ◌<◌, ◌≤◌, true, false, List, [], ◌∷◌, Some, None, nat_le, nat_lt, refl}
use Rattle.std.proofs.Common.{arith, inl, inr, sym, ap, ap₂, subst, ◌∙◌}
use Rattle.std.specs.Option.{option_to_list}
use Rattle.std.proofs.lemmas.Bool.{cases_lt, leb-true, ltb-true, le-leb, and_parts}
use Rattle.std.proofs.lemmas.Bool.Decides.{nat_tests}
use Rattle.scan.specs.Count.{bit}
use Rattle.scan.proofs.Counting.{from_to}
use Rattle.domain.specs.Maps.{times, Inside}
use Rattle.domain.proofs.Totals.{times_cons}
use Rattle.dial.specs.declared.arc.Arc.{Arc}
use Rattle.dial.specs.Arcs.{point, offset, holds, within, part, begin, end, dial}
use Rattle.dial.specs.Made.{arc_some, arc_none}
use Rattle.dial.specs.Offsets.{point_below, offset_below, offset_point, offset_by}

-- what is no point is held by no arc
pub holds_beyond : (a : Arc) (n : ℕ) → 3600 ≤ n → holds a n ≡ false
holds_beyond a n h = grind (arith, nat_tests)

-- the points of a sub-piece q of x, in the order of x
pub relative : (x q : Arc) (n : ℕ) → within q x ≡ true → n < 3600 → holds q n ≡ from_to (begin x q) (end x q) (offset x.start n)
relative x q n w h =
    let e = leb-true (end x q) x.len w in
    let b = offset_by x.start q.start n x.placed q.placed h in
    let i = offset_below q.start n q.placed h in
    let j = offset_below x.start n x.placed h in
    let m = x.most in
    grind (arith, nat_tests)

pub placed_bit : (x q : Arc) (n i j : ℕ) → within q x ≡ true → n < 3600 → begin x q ≡ i → i + q.len ≡ j → bit (holds q n) ≡ bit (from_to i j (offset x.start n))
placed_bit x q n i j w h b e =
    ap bit (relative x q n w h)
    ∙ ap₂ (λ (k m : ℕ). bit (from_to k m (offset x.start n))) b (omega (arith, b, e))

pub from_to_true : (a b i : ℕ) → a ≤ i → i < b → from_to a b i ≡ true
from_to_true a b i h l = grind (arith, nat_tests)

pub from_to_parts : (a b i : ℕ) → from_to a b i ≡ true → (a ≤ i) × (i < b)
from_to_parts a b i e = let p = and_parts (nat_le a i) (nat_lt i b) e in (leb-true a i p.0, ltb-true i b p.1)

-- two stretches that meet
pub meeting : (i j k o : ℕ) → i ≤ j → j ≤ k → bit (from_to i j o) + bit (from_to j k o) ≡ bit (from_to i k o)
meeting i j k o h l = grind (arith, nat_tests)

-- any stretch of x is a sub-piece
pub sliced : (x : Arc) (i m : ℕ) → 0 < m → i + m ≤ x.len → (b : Arc) × (part x i m ≡ Some b) × (begin x b ≡ i) × (b.len ≡ m) × (within b x ≡ true)
sliced x i m s h =
    let a = arc_some (point x.start i) m (point_below x.start i x.placed (omega (arith, x.most)), s, omega (arith, x.most)) in
    let b : begin x a.0 ≡ i = ap (offset x.start) a.2 ∙ offset_point x.start i x.placed (omega (arith, x.most)) in
    (a.0, a.1, b, a.3, le-leb (end x a.0) x.len (omega (arith, b, a.3)))

pub sliced_none : (x : Arc) (i : ℕ) → part x i 0 ≡ None
sliced_none x i = arc_none (point x.start i) 0 (λ v. omega (arith, v.1))

-- so many of a stretch's points, whether it is there or empty
pub slice_times : (x : Arc) (i m n : ℕ) → i + m ≤ x.len → n < 3600 → times dial n (option_to_list (part x i m)) ≡ bit (from_to i (i + m) (offset x.start n))
slice_times x i m n h l =
    elim (cases_lt 0 m) [
      | inl s ↦
          let b = sliced x i m s h in
          ap (λ o. times dial n (option_to_list o)) b.1 ∙ times_cons dial n b.0 []
          ∙ omega (arith, ap bit (relative x b.0 n b.4 l), ap₂ (λ j k. bit (from_to j k (offset x.start n))) b.2 (ap₂ (λ (j k : ℕ). j + k) b.2 b.3))
      | inr s ↦
          let e : m ≡ 0 = omega arith in
          ap (λ (k : ℕ). times dial n (option_to_list (part x i k))) e ∙ ap (λ o. times dial n (option_to_list o)) (sliced_none x i) ∙ empty i m (offset x.start n) e
    ]
  where
    empty : (i m o : ℕ) → m ≡ 0 → 0 ≡ bit (from_to i (i + m) o)
    empty i m o e = grind (arith, nat_tests)

pub slice_beyond : (n : ℕ) (ps : List Arc) → 3600 ≤ n → times dial n ps ≡ 0
slice_beyond n [] h = refl
slice_beyond n (p ∷ ps) h = omega (arith, times_cons dial n p ps, ap bit (holds_beyond p n h), slice_beyond n ps h)

pub slice_within : (x : Arc) (i m : ℕ) → i + m ≤ x.len → Inside dial x (option_to_list (part x i m))
slice_within x i m h =
    elim (cases_lt 0 m) [
      | inl s ↦ let b = sliced x i m s h in subst (λ o. Inside dial x (option_to_list o)) (sym b.1) (b.4, tt)
      | inr s ↦
          let e : m ≡ 0 = omega arith in
          subst (λ o. Inside dial x (option_to_list o)) (sym (ap (λ (k : ℕ). part x i k) e ∙ sliced_none x i)) tt
    ]

-- an arc inside another's stretch, both in the order of x
pub nested : (x b p : Arc) → begin x b ≤ begin x p → end x p ≤ end x b → within p b ≡ true
nested x b p low high =
    let by = offset_by x.start b.start p.start x.placed b.placed p.placed in
    let o = offset_below b.start p.start b.placed p.placed in
    le-leb (end b p) b.len (omega (arith, by, o))
