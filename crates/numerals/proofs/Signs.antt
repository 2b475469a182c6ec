-- A number with its sign.
use Rattle.std.proofs.Common.{◌≡◌, ℕ, suc, ◌-◌, ◌^◌, ◌<◌, List, ◌∷◌, length, get_or, take, drop, ℤ, pos, negsuc, Some, None, decimal, Option, sym, ap, ◌∙◌, arith, w32, SFits, MatchOption}
use lib.Signed.{mag}
use Rattle.std.specs.Fmt.{signed_decimal}
use Rattle.std.proofs.lemmas.List.{take_rest, drop_more}
use Rattle.numerals.proofs.Digits.{first_digit}

small_pos : (n : ℕ) → SFits w32 (pos n) → n < 2 ^ 31
small_pos n f = f.sfits

small_neg : (n : ℕ) → SFits w32 (negsuc n) → n < 2 ^ 31
small_neg n f = f.sfits

pub small_mag : (z : ℤ) → SFits w32 z → mag z < 2 ^ 63
small_mag (pos n) f = omega (arith, small_pos n f)
small_mag (negsuc n) f = omega (arith, small_neg n f)

tail_same : (xs ys : List ℕ) → 45 ∷ xs ≡ 45 ∷ ys → xs ≡ ys
tail_same xs ys e = cc

-- no decimal begins with a minus
no_minus : (n : ℕ) (xs : List ℕ) → n < 10 ^ 10 → 45 ∷ xs ≡ decimal n → ⊥
no_minus n xs l e = omega (arith, first_digit (45 ∷ xs) n l e)

pub after_minus : (text rest : List ℕ) (r : Option ℤ) → text ≡ 45 ∷ rest → MatchOption r ((n : ℕ) → n < 2 ^ 31 → rest ≡ decimal (suc n) → ⊥) (λ z. (n : ℕ) × (z ≡ negsuc n) × (rest ≡ decimal (suc n))) → MatchOption r ((z : ℤ) → SFits w32 z → text ≡ signed_decimal z → ⊥) (λ z. text ≡ signed_decimal z)
after_minus text rest None e f = missing
  where
    missing : (z : ℤ) → SFits w32 z → text ≡ signed_decimal z → ⊥
    missing (pos n) s q = no_minus n rest (omega (arith, small_pos n s)) (sym e ∙ q)
    missing (negsuc n) s q = f n (small_neg n s) (tail_same rest (decimal (suc n)) (sym e ∙ q))
after_minus text rest (Some z) e f = e ∙ ap (λ ds. 45 ∷ ds) f.2 ∙ sym (ap signed_decimal f.1)

pub minus_first : (text : List ℕ) → 0 < length text → get_or text 0 0 ≡ 45 → text ≡ 45 ∷ take (length text - 1) (drop 1 text)
minus_first text h e =
    drop_more text 0 0 h
    ∙ ap (λ (d : ℕ). d ∷ drop 1 text) e
    ∙ ap (λ (ds : List ℕ). 45 ∷ ds) (sym (take_rest text 1))
