-- A text of digits.
use Rattle.std.proofs.Common.{◌≡◌, ℕ, ◌^◌, ◌<◌, List, length, get_or, Some, None, Ok, Err, decimal, Option, Result, sym, ap, ◌∙◌, subst, inl, inr, arith, MatchOption, MatchResult}
use Rattle.std.specs.Int.{IsInRange}
use Rattle.std.specs.Result.{result_ok}
use Rattle.std.specs.Str.{IsUtf8}
use Rattle.std.specs.Str.Parse.{AllDigits, ParsesUnsigned, digits_value}
use Rattle.std.proofs.lemmas.Bool.{cases_lt}
use Rattle.std.proofs.lemmas.Fmt.{IsAscii-decimal, decimal-digits_value, decimal_digit, decimal_nonempty, digits_decimal, first_decimal, length-decimal-le, parse-decimal}
use Rattle.std.proofs.lemmas.Str.{IsUtf8-from_ascii}
use Rattle.std.proofs.lemmas.Str.Parse.{IsNumeralModel, digit_at, digits_value_short, numerals_by_value, parse_plain, tells_digits}
use Rattle.numerals.specs.Shape.{Shaped}

own : IsNumeralModel (AllDigits 10) (digits_value 10)
own = numerals_by_value (AllDigits 10) tells_digits

-- each byte of a decimal is a digit
pub digit_in : (n i : ℕ) → n < 2 ^ 64 → i < length (decimal n) → IsInRange 48 57 (get_or (decimal n) i 0)
digit_in n i h l = digit_at (decimal n) i (digits_decimal own n h) l

zero_first : (n : ℕ) → n < 10 ^ 10 → get_or (decimal n) 0 0 ≡ 48 → length (decimal n) ≡ 1
zero_first n l e =
    elim (cases_lt 0 n) [
      | inl h ↦ absurd (omega (arith, first_decimal n h (omega arith)))
      | inr h ↦ ap length (decimal_digit n (omega arith))
    ]

-- what a decimal looks like
pub shaped : (text : List ℕ) (n : ℕ) → n < 10 ^ 10 → text ≡ decimal n → Shaped text
shaped text n l e = subst Shaped (sym e) (decimal_nonempty n (omega arith), length-decimal-le 10 n (omega arith) l (omega arith), zero_first n l)

-- it begins with no plus and no minus
pub first_digit : (text : List ℕ) (n : ℕ) → n < 10 ^ 10 → text ≡ decimal n → IsInRange 48 57 (get_or text 0 0)
first_digit text n l e = subst (λ ds. IsInRange 48 57 (get_or ds 0 0)) (sym e) (digit_in n 0 (omega arith) (decimal_nonempty n (omega arith)))

-- it is text
pub no_text : {X E : Type 0} (x : Result X E) (P : X → Type 0) (Q : E → Type 0) (text : List ℕ) → ◌≡◌ {A = Option X} None (result_ok x) → MatchResult x P (λ e. (IsUtf8 text → ⊥) × Q e) → (n : ℕ) → n < 10 ^ 10 → text ≡ decimal n → ⊥
no_text (Ok x) P Q text e h n l k = cc
no_text (Err x) P Q text e h n l k = h.0 (subst IsUtf8 (sym k) (IsUtf8-from_ascii (decimal n) (IsAscii-decimal n (omega arith))))

-- a text that was read is that text
pub same_text : {X E : Type 0} (x : Result X E) (y : X) (P Q : X → Type 0) (R : E → Type 0) → Some y ≡ result_ok x → MatchResult x (λ s. P s × Q s) R → P y
same_text (Ok x) y P Q R e h = let s : x ≡ y = cc in subst P s h.0
same_text (Err x) y P Q R e h = cc

-- what is read of a text that looks like a decimal is the number that it writes
pub digits_read : {E : Type 0} (text : List ℕ) (r : Result ℕ E) → Shaped text → (get_or text 0 0 ≡ 43 → ⊥) → ParsesUnsigned 64 10 text r → MatchOption (result_ok r) ((n : ℕ) → n < 10 ^ 10 → text ≡ decimal n → ⊥) (λ n. (text ≡ decimal n) × (n < 10 ^ 10))
digits_read {E} text (Ok n) s p h =
    let r = parse_plain own {E = E} 64 text (Ok n) h p in
    let v = digits_value_short own text 10 r.0.0 s.1 in
    (sym (decimal-digits_value own text r.0.0 s.0 s.2 (omega (arith, v))) ∙ ap decimal (sym r.1), omega (arith, v, r.1))
digits_read text (Err x) s p h = λ n l e. let q = parse-decimal 64 n text (Err x) (omega arith) (omega arith) e h in cc
