-- What the least power of two is.
use Rattle.std.proofs.Common.{◌≡◌, ℕ, zero, suc, ◌+◌, ◌^◌, ◌<◌, ◌≤◌, leb, Some, None, Option, unwrap_or, MatchOption, refl, subst, inl, inr, arith}
use native.Mathlib.Nat.{pow-succ'}
use Rattle.std.proofs.lemmas.Bool.{leb-true, leb-false, cases_lt}
use Rattle.scan.specs.Live.{First, first_live}
use Rattle.scan.specs.Powers.{log_up}
use Rattle.scan.proofs.Runs.{first_is}

-- n ≤ 2 ^ e, and no smaller exponent does
Least : ℕ → ℕ → Type 0
Least n e = (n ≤ 2 ^ e) × ((i : ℕ) → i < e → 2 ^ i < n)

least_of : (n : ℕ) (r : Option ℕ) → n ≤ 2 ^ 32 → First (λ e. leb n (2 ^ e)) 0 33 r → Least n (unwrap_or r 33)
unfolding Least
least_of n None h d = absurd (omega (arith, h, leb-false n (2 ^ 32) (d 32 (omega arith) (omega arith))))
least_of n (Some e) h f = (leb-true n (2 ^ e) f.2, λ i l. leb-false n (2 ^ i) (f.3 i (omega arith) l))

least : (n : ℕ) → n ≤ 2 ^ 32 → Least n (log_up n)
unfolding log_up
least n h = least_of n (first_live (λ e. leb n (2 ^ e)) 0 33) h (first_is (λ e. leb n (2 ^ e)) 33 0 33 refl)

pub log_up_enough : (n : ℕ) → n ≤ 2 ^ 32 → n ≤ 2 ^ log_up n
unfolding Least
log_up_enough n h = (least n h).0

pub log_up_least : (n e : ℕ) → n ≤ 2 ^ 32 → n ≤ 2 ^ e → log_up n ≤ e
unfolding Least
log_up_least n e h l = elim (cases_lt e (log_up n)) [ inl u ↦ absurd (omega (arith, (least n h).1 e u)) | inr u ↦ u ]

pub log_up_mono : (m n : ℕ) → m ≤ n → n ≤ 2 ^ 32 → log_up m ≤ log_up n
log_up_mono m n l h = log_up_least m (log_up n) (omega arith) (omega (arith, log_up_enough n h))

-- a side of at most half the length has a smaller exponent
pub log_up_half : (m n : ℕ) → m + m ≤ n + 1 → 1 < n → n ≤ 2 ^ 32 → log_up m < log_up n
log_up_half m n l s h = go (log_up n) refl
  where
    go : (e : ℕ) → log_up n ≡ e → log_up m < log_up n
    go zero q = absurd (omega (arith, subst (λ (e : ℕ). n ≤ 2 ^ e) q (log_up_enough n h)))
    go (suc e) q = omega (arith, q, log_up_least m e (omega arith) (omega (arith, subst (λ (k : ℕ). n ≤ 2 ^ k) q (log_up_enough n h), pow-succ' 2 e)))

pub log_up_is : (n e : ℕ) → n ≤ 2 ^ 32 → n ≤ 2 ^ e → ((i : ℕ) → i < e → 2 ^ i < n) → e ≡ log_up n
log_up_is n e h u d =
    elim (cases_lt (log_up n) e) [
      | inl l ↦ absurd (omega (arith, d (log_up n) l, log_up_enough n h))
      | inr l ↦ omega (arith, log_up_least n e h u)
    ]

-- what a search upward finds
pub log_up_found : (n : ℕ) (r : Option ℕ) → n < 2 ^ 32 → MatchOption r ((i : ℕ) → 0 ≤ i → i < 32 → i < 32 → 2 ^ i < n) (λ e. (0 ≤ e) × (e < 32) × (e < 32 → n ≤ 2 ^ e) × ((i : ℕ) → 0 ≤ i → i < e → i < 32 → 2 ^ i < n)) → unwrap_or r 32 ≡ log_up n
log_up_found n None h d = log_up_is n 32 (omega arith) (omega arith) (λ i l. d i (omega arith) l l)
log_up_found n (Some e) h f = log_up_is n e (omega arith) (f.2 f.1) (λ i l. f.3 i (omega arith) l (omega (arith, f.1)))
