-- Sums and counts below a bound.
use Rattle.std.proofs.Common.{◌≡◌, ℕ, zero, suc, ◌+◌, ◌-◌, ◌*◌, ◌<◌, ◌≤◌, min, Bool, true, false, ◌&&◌, ltb, leb, refl, ap, ◌∙◌, subst, inl, inr, add-zero, add-suc, suc-mul, add-mul, zero-mul, mul-add, arith}
use Rattle.std.proofs.lemmas.Bool.{cases_eq, cases_Bool}
use Rattle.std.proofs.lemmas.Bool.Decides.{nat_tests}
use Rattle.scan.specs.Count.{bit, sum_below, count_below}

-- sums of equal terms are equal, of smaller ones smaller, and a sum of sums splits
pub sum_ext : (f g : ℕ → ℕ) (n : ℕ) → ((i : ℕ) → i < n → f i ≡ g i) → sum_below f n ≡ sum_below g n
unfolding sum_below
sum_ext f g zero h = refl
sum_ext f g (suc n) h = omega (arith, sum_ext f g n (λ i l. h i (omega arith)), h n (omega arith))

pub sum_mono : (f g : ℕ → ℕ) (n : ℕ) → ((i : ℕ) → i < n → f i ≤ g i) → sum_below f n ≤ sum_below g n
unfolding sum_below
sum_mono f g zero h = omega arith
sum_mono f g (suc n) h = omega (arith, sum_mono f g n (λ i l. h i (omega arith)), h n (omega arith))

pub sum_add : (f g : ℕ → ℕ) (n : ℕ) → sum_below (λ i. f i + g i) n ≡ sum_below f n + sum_below g n
unfolding sum_below
sum_add f g zero = refl
sum_add f g (suc n) = omega (arith, sum_add f g n)

pub sum_zero : (n : ℕ) → sum_below (λ i. 0) n ≡ 0
unfolding sum_below
sum_zero zero = refl
sum_zero (suc n) = omega (arith, sum_zero n)

pub bit_le : (b : Bool) → bit b ≤ 1
bit_le true = omega arith
bit_le false = omega arith

pub bit_true : (b : Bool) → b ≡ true → bit b ≡ 1
bit_true b e = ap bit e

pub bit_false : (b : Bool) → b ≡ false → bit b ≡ 0
bit_false b e = ap bit e

-- what is counted is there, and what is there is counted
pub count_some : (p : ℕ → Bool) (n : ℕ) → 0 < count_below p n → (i : ℕ) × (i < n) × (p i ≡ true)
unfolding sum_below
count_some p zero h = absurd (omega arith)
count_some p (suc n) h =
    elim (cases_Bool (p n)) [
      | inl e ↦ (n, omega arith, e)
      | inr e ↦ let k = count_some p n (omega (arith, bit_false (p n) e)) in (k.0, omega (arith, k.1), k.2)
    ]

pub count_has : (p : ℕ → Bool) (n i : ℕ) → i < n → p i ≡ true → 0 < count_below p n
unfolding sum_below
count_has p zero i h e = absurd (omega arith)
count_has p (suc n) i h e =
    elim (cases_eq i n) [
      | inl q ↦ omega (arith, bit_true (p n) (subst (λ (k : ℕ). p k ≡ true) q e))
      | inr q ↦ omega (arith, count_has p n i (omega arith) e)
    ]

-- of two different ones there are at least two
pub count_two : (p : ℕ → Bool) (n i j : ℕ) → i < j → j < n → p i ≡ true → p j ≡ true → 2 ≤ count_below p n
unfolding sum_below
count_two p zero i j h l e f = absurd (omega arith)
count_two p (suc n) i j h l e f =
    elim (cases_eq j n) [
      | inl q ↦ omega (arith, bit_true (p n) (subst (λ (k : ℕ). p k ≡ true) q f), count_has p n i (omega arith) e)
      | inr q ↦ omega (arith, count_two p n i j h (omega arith) e f)
    ]

-- the numbers from a up to, and not with, b
abbrev pub from_to : ℕ → ℕ → ℕ → Bool
from_to a b i = leb a i && ltb i b

-- one more of them, or not
from_to_bit : (a b n m : ℕ) → m ≡ min b n - a → m + bit (from_to a b n) ≡ min b (suc n) - a
from_to_bit a b n m e = grind (arith, nat_tests)

pub count_from_to : (a b n : ℕ) → count_below (from_to a b) n ≡ min b n - a
unfolding sum_below
count_from_to a b zero = omega arith
count_from_to a b (suc n) = from_to_bit a b n (count_below (from_to a b) n) (count_from_to a b n)

-- a sum in two stretches, and one of multiples
pub sum_split : (f : ℕ → ℕ) (m n : ℕ) → sum_below f (m + n) ≡ sum_below f m + sum_below (λ i. f (m + i)) n
unfolding sum_below
sum_split f m zero = ap (sum_below f) (add-zero m) ∙ omega arith
sum_split f m (suc n) =
    ap (sum_below f) (add-suc m n) ∙ omega (arith, sum_split f m n)

pub sum_scale : (c : ℕ) (f : ℕ → ℕ) (n : ℕ) → sum_below (λ i. c * f i) n ≡ c * sum_below f n
unfolding sum_below
sum_scale c f zero = omega arith
sum_scale c f (suc n) = omega (arith, sum_scale c f n, mul-add c (sum_below f n) (f n))

bit_and : (a b : Bool) → bit (a && b) ≡ bit a * bit b
bit_and true b = omega arith
bit_and false b = omega arith

-- row by row: w numbers to a row, h rows, and a test that asks one thing of the row and one of the place in it
module _ (p f g : ℕ → Bool) (w : ℕ) (splits : (y x : ℕ) → x < w → p (y * w + x) ≡ (f y && g x)) where
  count_row : (y : ℕ) → sum_below (λ x. bit (p (y * w + x))) w ≡ bit (f y) * count_below g w
  count_row y =
      sum_ext (λ x. bit (p (y * w + x))) (λ x. bit (f y) * bit (g x)) w (λ x h. ap bit (splits y x h) ∙ bit_and (f y) (g x))
      ∙ sum_scale (bit (f y)) (λ x. bit (g x)) w

  pub count_grid : (h : ℕ) → count_below p (h * w) ≡ count_below f h * count_below g w
  unfolding sum_below
  count_grid zero = ap (count_below p) (zero-mul w) ∙ omega (arith, zero-mul (count_below g w))
  count_grid (suc h) =
      ap (count_below p) (suc-mul h w) ∙ sum_split (λ i. bit (p i)) (h * w) w
      ∙ omega (arith, count_grid h, count_row h, add-mul (count_below f h) (bit (f h)) (count_below g w))
