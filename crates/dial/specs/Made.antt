-- Arcs and the numbers they are made of.
use Rattle.std.specs.Prelude.{◌≡◌, ℕ, ◌<◌, ◌≤◌, Some, None, Option, refl}
use Rattle.std.proofs.Math.Bridge.{le_prop}
use Rattle.std.proofs.Math.Decide.{dec_le, dec_lt}
use Rattle.std.proofs.Common.{arith, sym, ap, ap₂, ◌∙◌}
use Rattle.dial.specs.declared.arc.Arc.{Arc}
use Rattle.dial.specs.Arcs.{AreArc, decided, arc_of}

abbrev Made : ℕ → ℕ → Option Arc → Type 0
Made s n o = (a : Arc) × (o ≡ Some a) × (a.start ≡ s) × (a.len ≡ n)

decided_some : (s n : ℕ) (p : Dec (s < 3600)) (q : Dec (0 < n)) (r : Dec (n ≤ 3600)) → AreArc s n → Made s n (decided s n p q r)
decided_some s n (yes p) (yes q) (yes r) v = (record { start = s; len = n; placed = p; some = q; most = r }, refl, refl, refl)
decided_some s n (yes p) (yes q) (no r) v = absurd (r v.2)
decided_some s n (yes p) (no q) r v = absurd (q v.1)
decided_some s n (no p) q r v = absurd (p v.0)

pub arc_some : (s n : ℕ) → AreArc s n → (a : Arc) × (arc_of s n ≡ Some a) × (a.start ≡ s) × (a.len ≡ n)
unfolding arc_of
arc_some s n v = decided_some s n (dec_lt s 3600) (dec_lt 0 n) (dec_le n 3600) v

decided_none : (s n : ℕ) (p : Dec (s < 3600)) (q : Dec (0 < n)) (r : Dec (n ≤ 3600)) → (AreArc s n → ⊥) → decided s n p q r ≡ None
decided_none s n (yes p) (yes q) (yes r) v = absurd (v (p, q, r))
decided_none s n (yes p) (yes q) (no r) v = refl
decided_none s n (yes p) (no q) r v = refl
decided_none s n (no p) q r v = refl

pub arc_none : (s n : ℕ) → (AreArc s n → ⊥) → arc_of s n ≡ None
unfolding arc_of
arc_none s n v = decided_none s n (dec_lt s 3600) (dec_lt 0 n) (dec_le n 3600) v

nothing : (a : Arc) → ◌≡◌ {A = Option Arc} None (Some a) → ⊥
nothing a e = let z : ◌≡◌ {A = ℕ} 0 1 = cc in omega arith

decided_is : (s n : ℕ) (p : Dec (s < 3600)) (q : Dec (0 < n)) (r : Dec (n ≤ 3600)) (a : Arc) → decided s n p q r ≡ Some a → (a.start ≡ s) × (a.len ≡ n)
decided_is s n (yes p) (yes q) (yes r) a e = (cc, cc)
decided_is s n (yes p) (yes q) (no r) a e = absurd (nothing a e)
decided_is s n (yes p) (no q) r a e = absurd (nothing a e)
decided_is s n (no p) q r a e = absurd (nothing a e)

-- an arc that is made has the numbers it was made of
pub arc_is : (s n : ℕ) (a : Arc) → arc_of s n ≡ Some a → (a.start ≡ s) × (a.len ≡ n)
unfolding arc_of
arc_is s n a e = decided_is s n (dec_lt s 3600) (dec_lt 0 n) (dec_le n 3600) a e

decided_own : (a : Arc) (p : Dec (a.start < 3600)) (q : Dec (0 < a.len)) (r : Dec (a.len ≤ 3600)) → decided a.start a.len p q r ≡ Some a
decided_own a (yes p) (yes q) (yes r) =
    ap (λ (t : a.start < 3600). Some (record { start = a.start; len = a.len; placed = t; some = q; most = r })) (le_prop p a.placed)
    ∙ ap (λ (t : 0 < a.len). Some (record { start = a.start; len = a.len; placed = a.placed; some = t; most = r })) (le_prop q a.some)
    ∙ ap (λ (t : a.len ≤ 3600). Some (record { start = a.start; len = a.len; placed = a.placed; some = a.some; most = t })) (le_prop r a.most)
decided_own a (yes p) (yes q) (no r) = absurd (r a.most)
decided_own a (yes p) (no q) r = absurd (q a.some)
decided_own a (no p) q r = absurd (p a.placed)

-- an arc's own numbers make it again
pub arc_own : (a : Arc) → arc_of a.start a.len ≡ Some a
unfolding arc_of
arc_own a = decided_own a (dec_lt a.start 3600) (dec_lt 0 a.len) (dec_le a.len 3600)

inside : (a b : Arc) → Some a ≡ Some b → a ≡ b
inside a b e = cc

-- arcs of equal numbers are equal
pub same_arc : (a b : Arc) → a.start ≡ b.start → a.len ≡ b.len → a ≡ b
same_arc a b p q = inside a b (sym (arc_own a) ∙ ap₂ arc_of p q ∙ arc_own b)
