-- What holds of numbers holds of equal ones.
use Rattle.std.proofs.Common.{◌≡◌, ℤ, subst}

-- what holds of two numbers, or of four, holds of equal ones
pub of_two : (P : ℤ → ℤ → Type 0) {a b p q : ℤ} → a ≡ p → b ≡ q → P a b → P p q
of_two P {a} {b} {p} {q} e f x = subst (λ z. P p z) f (subst (λ z. P z b) e x)

pub of_four : (P : ℤ → ℤ → ℤ → ℤ → Type 0) {a b c d p q r s : ℤ} → a ≡ p → b ≡ q → c ≡ r → d ≡ s → P a b c d → P p q r s
of_four P {a} {b} {c} {d} {p} {q} {r} {s} e f g h x =
    subst (λ z. P p q r z) h (subst (λ z. P p q z d) g (subst (λ z. P p z c d) f (subst (λ z. P z b c d) e x)))
