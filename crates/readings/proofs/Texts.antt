-- The text of numbers: no line end in it, and short.
use Rattle.std.proofs.Common.{◌≡◌, ℕ, ◌+◌, ◌*◌, ◌^◌, ◌<◌, ◌≤◌, Bool, true, false, cond, eqb, List, [], ◌∷◌, length, ℤ, pos, negsuc, ◌≤ℤ◌, refl, arith, w32, SFits}
use lib.Signed.{mag}
use Rattle.std.specs.List.{All}
use Rattle.std.specs.Fmt.{signed_decimal}
use Rattle.std.proofs.lemmas.Fmt.{length_signed_le}
use Rattle.std.proofs.lemmas.List.Elements.{All-append, All-nil, All-cons, All-head, All-tail}
use Rattle.std.proofs.lemmas.List.{length-append}
use Rattle.std.proofs.lemmas.Int.{ints}
use Rattle.std.proofs.lemmas.Bool.{eqb-false}
use Rattle.numerals.specs.Lists.{Without, listed}
use Rattle.numerals.proofs.Commas.{signed_without}
use Rattle.numerals.proofs.Signs.{small_mag}

-- no byte of these ends a line, by trying each
abbrev pub endless : List ℕ → Bool
endless [] = true
endless (x ∷ xs) = cond (eqb x 10) false (endless xs)

endless_more : (b : Bool) (x : ℕ) (xs : List ℕ) → eqb x 10 ≡ b → cond b false (endless xs) ≡ true → ((endless xs ≡ true) → Without 10 xs) → Without 10 (x ∷ xs)
endless_more true x xs e h f = cc
endless_more false x xs e h f = All-cons (λ b. b ≡ 10 → ⊥) x xs (eqb-false x 10 e) (f h)

pub without_end : (xs : List ℕ) → endless xs ≡ true → Without 10 xs
without_end [] h = All-nil (λ b. b ≡ 10 → ⊥)
without_end (x ∷ xs) h = endless_more (eqb x 10) x xs refl h (without_end xs)

pub listed_without : (zs : List ℤ) → All (SFits w32) zs → Without 10 (listed zs)
listed_without [] f = All-nil (λ b. b ≡ 10 → ⊥)
listed_without (z ∷ []) f = signed_without z 10 (All-head (SFits w32) z [] f) (omega arith)
listed_without (z ∷ y ∷ zs) f =
    All-append (λ b. b ≡ 10 → ⊥) (signed_decimal z) (44 ∷ listed (y ∷ zs)) (signed_without z 10 (All-head (SFits w32) z (y ∷ zs) f) (omega arith))
    (All-cons (λ b. b ≡ 10 → ⊥) 44 (listed (y ∷ zs)) (λ e. omega (arith, e)) (listed_without (y ∷ zs) (All-tail (SFits w32) z (y ∷ zs) f)))

mag_small : (z : ℤ) → SFits w32 z → mag z + 1 < 10 ^ 10
mag_small (pos n) f = omega (arith, f.sfits)
mag_small (negsuc n) f = omega (arith, f.sfits)

pub listed_short : (zs : List ℤ) → All (SFits w32) zs → length (listed zs) ≤ 12 * length zs
listed_short [] f = omega arith
listed_short (z ∷ []) f = let g = All-head (SFits w32) z [] f in omega (arith, length_signed_le 10 z (mag_small z g) (small_mag z g))
listed_short (z ∷ y ∷ zs) f =
    let g = All-head (SFits w32) z (y ∷ zs) f in
    omega (arith, length-append (signed_decimal z) (44 ∷ listed (y ∷ zs)), length_signed_le 10 z (mag_small z g) (small_mag z g), listed_short (y ∷ zs) (All-tail (SFits w32) z (y ∷ zs) f))

-- numbers of the ranges that occur
pub small_natural : (n : ℕ) → n ≤ 65535 → SFits w32 (pos n)
small_natural n h = record { sfits = omega arith }

pub natural_fits : (n : ℕ) → n ≤ 65535 → All (SFits w32) (pos n ∷ [])
natural_fits n h = All-cons (SFits w32) (pos n) [] (small_natural n h) (All-nil (SFits w32))

pub small_signed : (z : ℤ) → negsuc 16383 ≤ℤ z → z ≤ℤ pos 16383 → SFits w32 z
small_signed (pos n) h k = record { sfits = omega (arith, ints) }
small_signed (negsuc n) h k = record { sfits = omega (arith, ints) }

pub smaller_signed : (z : ℤ) → negsuc 2047 ≤ℤ z → z ≤ℤ pos 2047 → SFits w32 z
smaller_signed z h k = small_signed z (omega (arith, ints)) (omega (arith, ints))
