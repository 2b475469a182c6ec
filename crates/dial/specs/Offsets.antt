-- Going round the dial: points and offsets without remainders.
use Rattle.std.specs.Prelude.{◌≡◌, ℕ, ◌+◌, ◌-◌, ◌<◌, ◌≤◌, ◌⊎◌}
use Rattle.std.proofs.Common.{arith, inl, inr}
use Rattle.std.proofs.lemmas.Bool.{cases_lt}
use Rattle.dial.specs.Arcs.{point, offset}

pub point_cases : (s i : ℕ) → s < 3600 → i ≤ 3600 → ((s + i < 3600) × (point s i ≡ s + i)) ⊎ ((3600 ≤ s + i) × (point s i ≡ s + i - 3600))
unfolding point
point_cases s i h k = elim (cases_lt (s + i) 3600) [ inl l ↦ inl (l, omega arith) | inr l ↦ inr (l, omega arith) ]

pub offset_cases : (s n : ℕ) → s < 3600 → n < 3600 → ((s ≤ n) × (offset s n ≡ n - s)) ⊎ ((n < s) × (offset s n ≡ n + 3600 - s))
unfolding offset
offset_cases s n h k = elim (cases_lt n s) [ inl l ↦ inr (l, omega arith) | inr l ↦ inl (l, omega arith) ]

pub point_below : (s i : ℕ) → s < 3600 → i ≤ 3600 → point s i < 3600
point_below s i h k = omega (arith, point_cases s i h k)

pub offset_below : (s n : ℕ) → s < 3600 → n < 3600 → offset s n < 3600
offset_below s n h k = omega (arith, offset_cases s n h k)

pub point_none : (s : ℕ) → s < 3600 → point s 0 ≡ s
point_none s h = omega (arith, point_cases s 0 h (omega arith))

-- a point and its offset lead to each other
pub offset_point : (s i : ℕ) → s < 3600 → i < 3600 → offset s (point s i) ≡ i
offset_point s i h k =
    let c = point_cases s i h (omega arith) in
    omega (arith, c, offset_cases s (point s i) h (omega (arith, c)))

pub point_offset : (s n : ℕ) → s < 3600 → n < 3600 → point s (offset s n) ≡ n
point_offset s n h k =
    let c = offset_cases s n h k in
    omega (arith, c, point_cases s (offset s n) h (omega (arith, c)))

pub offset_self : (s : ℕ) → s < 3600 → offset s s ≡ 0
offset_self s h = omega (arith, offset_cases s s h h)

pub offset_none : (s n : ℕ) → s < 3600 → n < 3600 → offset s n ≡ 0 → s ≡ n
offset_none s n h k e = omega (arith, offset_cases s n h k)

-- the way from a to n by b is the way itself, or once more round
pub offset_by : (a b n : ℕ) → a < 3600 → b < 3600 → n < 3600 → (offset a b + offset b n ≡ offset a n) ⊎ (offset a b + offset b n ≡ offset a n + 3600)
offset_by a b n h k l =
    elim (cases_lt (offset a b + offset b n) 3600) [
      | inl u ↦ inl (omega (arith, u, offset_cases a b h k, offset_cases b n k l, offset_cases a n h l))
      | inr u ↦ inr (omega (arith, u, offset_cases a b h k, offset_cases b n k l, offset_cases a n h l))
    ]
