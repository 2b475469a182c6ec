-- What is computed of offsets is what the rules say of columns, rows and spans.
use Rattle.std.proofs.Common.{◌≡◌, ℕ, ◌+◌, ◌<◌, ◌≤◌, max, ℤ, ◌&&◌, nat_le, unsigned_abs, arith, sym, ap, ap₂, ◌∙◌, inl, inr}
use Rattle.std.proofs.lemmas.Bool.{cases_lt}
use Rattle.std.proofs.lemmas.Bool.Decides.{nat_tests}
use Rattle.leaves.specs.Cones.{offset}
use Rattle.leaves.specs.Distances.{square_le}
use Rattle.leaves.specs.Rings.{square, distance}

-- the square of an offset is that of the distance
pub square_is : (b a : ℤ) (i k : ℕ) (z : ℤ) → z ≡ offset a i → a ≡ b → i ≡ k → square (unsigned_abs z) ≡ square (distance b k)
unfolding distance
square_is b a i k z e f h = ap (λ (y : ℤ). square (unsigned_abs y)) (e ∙ ap₂ offset f h)

pub square_max : (a b : ℕ) → max (square a) (square b) ≡ square (max a b)
square_max a b =
    elim (cases_lt a b) [
      | inl h ↦ let m : max a b ≡ b = omega arith in let k = square_le a b (omega arith) in let n : max (square a) (square b) ≡ square b = omega arith in n ∙ ap square (sym m)
      | inr h ↦ let m : max a b ≡ a = omega arith in let k = square_le b a h in let n : max (square a) (square b) ≡ square a = omega arith in n ∙ ap square (sym m)
    ]

-- both tests of a ring, once the first is known
module _ (m n o i e near far p j : ℕ) (closest : m ≡ e + near) (outer : o ≡ p) where
  pub first_holds : n ≡ e + far → i ≡ j → m ≤ o → nat_le i n ≡ (nat_le (e + near) p && nat_le j (e + far))
  first_holds farthest inner h = grind (arith, nat_tests)

  pub first_fails : o < m → nat_le m o ≡ (nat_le (e + near) p && nat_le j (e + far))
  first_fails h = grind (arith, nat_tests)
