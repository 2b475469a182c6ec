-- A product of a direction number and an offset: its size, and that it rises or falls all along.
use Rattle.std.specs.Prelude.{◌≡◌, ℕ, zero, suc, ◌+◌, ◌-◌, ◌*◌, ◌≤◌, ℤ, pos, negsuc, ◌+ℤ◌, ◌-ℤ◌, ◌*ℤ◌, neg_ℤ, ◌≤ℤ◌, ◌<ℤ◌, Decides, FitsSigned, int_lt, unsigned_abs, refl}
use Rattle.std.proofs.Common.{arith, sym, ap, ap₂, subst, ◌∙◌, to_z, of_z}
use Rattle.std.proofs.Math.IntN.{suc_ℤ, suc_ℤ-+ℤ, suc_ℤ-*ℤ, *ℤ_comm}
use Rattle.std.specs.Int.Signed.{≤ℤ_refl}
use Rattle.std.specs.Int.{int_max, int_min, w32}
use Rattle.std.proofs.lemmas.Nat.{mul-le}
use Rattle.std.proofs.lemmas.Int.{ints, clamps, by_lt_z, to_z-of_z}
use Rattle.scan.specs.declared.stretch.Stretch.{Stretch}
use Rattle.leaves.specs.Cones.{offset}

abs_neg : (n : ℕ) → unsigned_abs (neg_ℤ (pos n)) ≡ n
abs_neg zero = refl
abs_neg (suc n) = refl

pub product_size : (a b : ℤ) (m n : ℕ) → unsigned_abs a ≤ m → unsigned_abs b ≤ n → unsigned_abs (a *ℤ b) ≤ m * n
product_size (pos a) (pos b) m n h k = mul-le a b m n h k
product_size (pos a) (negsuc b) m n h k = omega (arith, abs_neg (a * suc b), mul-le a (suc b) m n h k)
product_size (negsuc a) (pos b) m n h k = omega (arith, abs_neg (suc a * b), mul-le (suc a) b m n h k)
product_size (negsuc a) (negsuc b) m n h k = mul-le (suc a) (suc b) m n h k

-- orders and extremes of signed numbers, with products as they stand
up_more : (g h k p : ℤ) → g ≤ℤ h → k ≡ h +ℤ p → pos 0 ≤ℤ p → g ≤ℤ k
up_more g h k p a e n = omega (arith, ints)

down_more : (g h k p : ℤ) → h ≤ℤ g → k ≡ h +ℤ p → p ≤ℤ pos 0 → k ≤ℤ g
down_more g h k p a e n = omega (arith, ints)

ends_up : (l a h : ℤ) → l ≤ℤ a → a ≤ℤ h → (int_min l h ≤ℤ a) × (a ≤ℤ int_max l h)
ends_up l a h low high = (omega (arith, ints, clamps), omega (arith, ints, clamps))

ends_down : (l a h : ℤ) → a ≤ℤ l → h ≤ℤ a → (int_min l h ≤ℤ a) × (a ≤ℤ int_max l h)
ends_down l a h low high = (omega (arith, ints, clamps), omega (arith, ints, clamps))

module _ (p b : ℤ) where
  -- one index on, one p more
  step : (j : ℕ) → p *ℤ offset b (suc j) ≡ p *ℤ offset b j +ℤ p
  step j =
      ap (λ z. p *ℤ z) (suc_ℤ-+ℤ (pos j) (neg_ℤ b))
      ∙ *ℤ_comm p (suc_ℤ (offset b j))
      ∙ suc_ℤ-*ℤ (offset b j) p
      ∙ ap (λ z. z +ℤ p) (*ℤ_comm (offset b j) p)

  rises : pos 0 ≤ℤ p → (w j k : ℕ) → k ≡ w + j → (p *ℤ offset b j) ≤ℤ (p *ℤ offset b k)
  rises n zero j k e = let q : j ≡ k = omega arith in subst (λ (i : ℕ). (p *ℤ offset b j) ≤ℤ (p *ℤ offset b i)) q (≤ℤ_refl (p *ℤ offset b j))
  rises n (suc w) j k e =
      let q : k ≡ suc (w + j) = omega arith in
      up_more (p *ℤ offset b j) (p *ℤ offset b (w + j)) (p *ℤ offset b k) p (rises n w j (w + j) refl) (ap (λ (i : ℕ). p *ℤ offset b i) q ∙ step (w + j)) n

  falls : p ≤ℤ pos 0 → (w j k : ℕ) → k ≡ w + j → (p *ℤ offset b k) ≤ℤ (p *ℤ offset b j)
  falls n zero j k e = let q : j ≡ k = omega arith in subst (λ (i : ℕ). (p *ℤ offset b i) ≤ℤ (p *ℤ offset b j)) q (≤ℤ_refl (p *ℤ offset b j))
  falls n (suc w) j k e =
      let q : k ≡ suc (w + j) = omega arith in
      down_more (p *ℤ offset b j) (p *ℤ offset b (w + j)) (p *ℤ offset b k) p (falls n w j (w + j) refl) (ap (λ (i : ℕ). p *ℤ offset b i) q ∙ step (w + j)) n

  -- over a stretch a product lies between those at the ends
  pub between_ends : (s : Stretch) (j : ℕ) → s.low ≤ j → j ≤ s.high → (int_min (p *ℤ offset b s.low) (p *ℤ offset b s.high) ≤ℤ (p *ℤ offset b j)) × ((p *ℤ offset b j) ≤ℤ int_max (p *ℤ offset b s.low) (p *ℤ offset b s.high))
  between_ends s j low high =
      by_lt_z p (pos 0)
      (λ n. let m : p ≤ℤ pos 0 = omega (arith, ints) in
      ends_down (p *ℤ offset b s.low) (p *ℤ offset b j) (p *ℤ offset b s.high)
      (falls m (j - s.low) s.low j (omega arith)) (falls m (s.high - j) j s.high (omega arith)))
      (λ n. ends_up (p *ℤ offset b s.low) (p *ℤ offset b j) (p *ℤ offset b s.high)
      (rises n (j - s.low) s.low j (omega arith)) (rises n (s.high - j) j s.high (omega arith)))

-- a size below half the range fits
pub small_fits : (z : ℤ) → unsigned_abs z ≤ 75495424 → FitsSigned w32 z
small_fits z h = omega (arith, ints)

-- the product of two numbers, each read from its bits
pub product_is : (a b d e : ℤ) → d ≡ a → e ≡ b → unsigned_abs a ≤ 2048 → unsigned_abs b ≤ 36863 → FitsSigned w32 (d *ℤ e) × (to_z w32 (of_z w32 (d *ℤ e)) ≡ a *ℤ b) × (unsigned_abs (to_z w32 (of_z w32 (d *ℤ e))) ≤ 75495424)
product_is a b d e x y h k =
    let same : d *ℤ e ≡ a *ℤ b = ap₂ ◌*ℤ◌ x y in
    let size : unsigned_abs (d *ℤ e) ≤ 75495424 = subst (λ z. unsigned_abs z ≤ 75495424) (sym same) (product_size a b 2048 36863 h k) in
    let fits = small_fits (d *ℤ e) size in
    let back = to_z-of_z w32 (d *ℤ e) fits in
    (fits, back ∙ same, subst (λ z. unsigned_abs z ≤ 75495424) (sym back) size)

small_difference : (a b : ℤ) → unsigned_abs a ≤ 75495424 → unsigned_abs b ≤ 75495424 → FitsSigned w32 (a -ℤ b)
small_difference a b h k = omega (arith, ints)

-- the difference of two products of numbers of directions, each number read from its bits
pub cross_is : (a b d e p q r s : ℤ) → p ≡ a → q ≡ b → r ≡ d → s ≡ e → unsigned_abs a ≤ 2048 → unsigned_abs b ≤ 2048 → unsigned_abs d ≤ 2048 → unsigned_abs e ≤ 2048 → FitsSigned w32 (to_z w32 (of_z w32 (p *ℤ q)) -ℤ to_z w32 (of_z w32 (r *ℤ s))) × (to_z w32 (of_z w32 (to_z w32 (of_z w32 (p *ℤ q)) -ℤ to_z w32 (of_z w32 (r *ℤ s)))) ≡ a *ℤ b -ℤ d *ℤ e)
cross_is a b d e p q r s f g i j k l m n =
    let x = product_is a b p q f g k (omega arith) in
    let y = product_is d e r s i j m (omega arith) in
    let fits = small_difference (to_z w32 (of_z w32 (p *ℤ q))) (to_z w32 (of_z w32 (r *ℤ s))) x.2 y.2 in
    (fits, to_z-of_z w32 (to_z w32 (of_z w32 (p *ℤ q)) -ℤ to_z w32 (of_z w32 (r *ℤ s))) fits ∙ ap₂ ◌-ℤ◌ x.1 y.1)

pub above_decides : (z s : ℤ) → z ≡ s → Decides (int_lt (pos 0) z) (pos 0 <ℤ s)
above_decides z s e = (λ h. grind (arith, ints), λ h. grind (arith, ints))
