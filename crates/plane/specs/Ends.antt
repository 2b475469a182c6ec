-- Spans and the ends they are made of.
use Rattle.std.specs.Prelude.{◌≡◌, ℕ, zero, suc, ◌+◌, ◌<◌, ◌≤◌, Some, None, Option, refl}
use Rattle.std.proofs.Math.Bridge.{le_prop}
use Rattle.std.proofs.Math.Decide.{dec_le}
use Rattle.std.proofs.Common.{arith, sym, ap, ap₂, ◌∙◌}
use Rattle.plane.specs.declared.span.Span.{Span}
use Rattle.plane.specs.Spans.{AreEnds, decided, span_of, HasEnds, many_from, HasMany, long}

nothing : (a : Span) → ◌≡◌ {A = Option Span} None (Some a) → ⊥
nothing a e = let z : ◌≡◌ {A = ℕ} 0 1 = cc in omega arith

inside : (a b : Span) → Some a ≡ Some b → a ≡ b
inside a b e = cc

module _ (low high : ℕ) where
  decided_some : (p : Dec (low ≤ high)) (q : Dec (high ≤ 4095)) → AreEnds low high → (s : Span) × (decided low high p q ≡ Some s) × HasEnds low high s
  decided_some (yes p) (yes q) v = (record { low = low; high = high; ordered = p; most = q }, refl, (refl, refl))
  decided_some (yes p) (no q) v = absurd (q v.1)
  decided_some (no p) q v = absurd (p v.0)

  pub span_some : AreEnds low high → (s : Span) × (span_of low high ≡ Some s) × HasEnds low high s
  unfolding span_of
  span_some v = decided_some (dec_le low high) (dec_le high 4095) v

  decided_none : (p : Dec (low ≤ high)) (q : Dec (high ≤ 4095)) → (AreEnds low high → ⊥) → decided low high p q ≡ None
  decided_none (yes p) (yes q) v = absurd (v (p, q))
  decided_none (yes p) (no q) v = refl
  decided_none (no p) q v = refl

  pub span_none : (AreEnds low high → ⊥) → span_of low high ≡ None
  unfolding span_of
  span_none v = decided_none (dec_le low high) (dec_le high 4095) v

  decided_is : (p : Dec (low ≤ high)) (q : Dec (high ≤ 4095)) (s : Span) → decided low high p q ≡ Some s → HasEnds low high s
  decided_is (yes p) (yes q) s e = (cc, cc)
  decided_is (yes p) (no q) s e = absurd (nothing s e)
  decided_is (no p) q s e = absurd (nothing s e)

  -- a span that is made has the ends it was made of
  pub span_is : (s : Span) → span_of low high ≡ Some s → HasEnds low high s
  unfolding span_of
  span_is s e = decided_is (dec_le low high) (dec_le high 4095) s e

decided_own : (s : Span) (p : Dec (s.low ≤ s.high)) (q : Dec (s.high ≤ 4095)) → decided s.low s.high p q ≡ Some s
decided_own s (yes p) (yes q) =
    ap (λ (t : s.low ≤ s.high). Some (record { low = s.low; high = s.high; ordered = t; most = q })) (le_prop p s.ordered)
    ∙ ap (λ (t : s.high ≤ 4095). Some (record { low = s.low; high = s.high; ordered = s.ordered; most = t })) (le_prop q s.most)
decided_own s (yes p) (no q) = absurd (q s.most)
decided_own s (no p) q = absurd (p s.ordered)

-- a span's own ends make it again
pub span_own : (s : Span) → span_of s.low s.high ≡ Some s
unfolding span_of
span_own s = decided_own s (dec_le s.low s.high) (dec_le s.high 4095)

-- ends that a span has make it
pub span_by : (low high : ℕ) (s : Span) → HasEnds low high s → span_of low high ≡ Some s
span_by low high s h = sym (ap₂ span_of h.0 h.1) ∙ span_own s

-- spans of equal ends are equal
pub same_span : (a b : Span) → HasEnds b.low b.high a → a ≡ b
same_span a b h = inside a b (sym (span_by b.low b.high a h) ∙ span_own b)

-- so many make a span, unless there are none
pub many_some : (first n : ℕ) → 0 < n → first + n ≤ 4096 → (s : Span) × (many_from first n ≡ Some s) × HasMany first n s
unfolding many_from
many_some first zero p q = absurd (omega arith)
many_some first (suc n) p q =
    let m = span_some first (first + n) (omega arith, omega arith) in
    (m.0, m.1, (m.2.0, omega (arith, m.2)))

pub many_none : (first : ℕ) → many_from first 0 ≡ None
unfolding many_from
many_none first = refl

pub no_many : (first n : ℕ) → n ≡ 0 → many_from first n ≡ None
no_many first n e = ap (many_from first) e ∙ many_none first

-- a span that has them is made of them
pub many_made : (first n : ℕ) (s : Span) → HasMany first n s → many_from first n ≡ Some s
many_made first n s h =
    let a = s.ordered in
    let b = s.most in
    let m = many_some first n (omega arith) (omega arith) in
    m.1 ∙ ap Some (same_span m.0 s (omega (arith, m.2), omega (arith, m.2)))

pub many_own : (s : Span) → many_from s.low (long s) ≡ Some s
many_own s = let a = s.ordered in many_made s.low (long s) s (refl, omega arith)
