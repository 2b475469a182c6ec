-- A roll is an array from a place on, and round again.
use Rattle.std.proofs.Common.{◌≡◌, ℕ, suc, ◌+◌, ◌-◌, ◌<◌, ◌≤◌, ltb, List, [], ◌∷◌, ◌++◌, length, get_or, take, drop, set, sym, ap, ◌∙◌, ap₂, inl, inr, arith}
use lib.Seq.{take-set-lt}
use Rattle.std.proofs.Math.Seq.{take-append-add}
use Rattle.std.proofs.lemmas.List.{append_assoc, append-nil, length-append, length-take-le, length-drop, take_all, take-append-le, take-take, take_more, take_more_set, take-set-le, drop_more, drop_all, drop-set-lt, drop-set-add, set-append_left, set-append_right}
use Rattle.std.proofs.lemmas.Bool.{cases_lt, lt-ltb, le-ltb, cond-true, cond-false}
use Rattle.sheet.specs.Rolls.{from, place, rolled}
use Rattle.sheet.specs.declared.roll.Roll.{Roll}

-- the place within the ring, and past its end
pub place_on : (f n : ℕ) → f + n < 1024 → place f n ≡ f + n
place_on f n h = cond-true (ltb (f + n) 1024) (f + n) (f + n - 1024) (lt-ltb (f + n) 1024 h)

pub place_round : (f n : ℕ) → 1024 ≤ f + n → place f n ≡ f + n - 1024
place_round f n h = cond-false (ltb (f + n) 1024) (f + n) (f + n - 1024) (le-ltb (f + n) 1024 h)

module _ {X : Type 0} (xs : List X) (f : ℕ) (whole : length xs ≡ 1024) (begins : f < 1024) where
  pub from_length : length (from f xs) ≡ 1024
  from_length = omega (arith, length-append (drop f xs) (take f xs), length-drop f xs, length-take-le f xs (omega arith))

  -- a write n after the first
  pub from_set : (n : ℕ) (y : X) → n < 1024 → from f (set xs (place f n) y) ≡ set (from f xs) n y
  from_set n y h =
      elim (cases_lt (f + n) 1024) [
        | inl on ↦
            ap (λ (k : ℕ). from f (set xs k y)) (place_on f n on)
            ∙ ap₂ ◌++◌ (drop-set-add f xs n y) (take-set-le f xs (f + n) y (omega arith))
            ∙ sym (set-append_left (drop f xs) (take f xs) n y (omega (arith, length-drop f xs)))
        | inr round ↦
            let e : place f n ≡ n - (1024 - f) = omega (arith, place_round f n round) in
            ap (λ (k : ℕ). from f (set xs k y)) e
            ∙ ap₂ ◌++◌ (drop-set-lt f xs (n - (1024 - f)) y (omega arith)) (take-set-lt f xs (n - (1024 - f)) y (omega arith))
            ∙ sym (set-append_right (drop f xs) (take f xs) (1024 - f) n y (omega (arith, length-drop f xs)) (omega arith))
      ]

  -- one more, the newest
  pub from_note : (n : ℕ) (y : X) → n < 1024 → take (n + 1) (from f (set xs (place f n) y)) ≡ take n (from f xs) ++ y ∷ []
  from_note n y h = ap (take (n + 1)) (from_set n y h) ∙ take_more_set (from f xs) n y (omega (arith, from_length))

  -- from the next place on
  pub from_next : (d : X) → from f xs ≡ get_or xs f d ∷ (drop (f + 1) xs ++ take f xs)
  from_next d = ap (λ ys. ys ++ take f xs) (drop_more xs f d (omega arith))

  pub from_place : (d : X) → from (place f 1) xs ≡ (drop (f + 1) xs ++ take f xs) ++ get_or xs f d ∷ []
  from_place d =
      elim (cases_lt (f + 1) 1024) [
        | inl on ↦
            ap (λ (k : ℕ). from k xs) (place_on f 1 on)
            ∙ ap (λ ys. drop (f + 1) xs ++ ys) (take_more xs f d (omega arith))
            ∙ sym (append_assoc (drop (f + 1) xs) (take f xs) (get_or xs f d ∷ []))
        | inr round ↦
            let e : place f 1 ≡ 0 = omega (arith, place_round f 1 round) in
            ap (λ (k : ℕ). from k xs) e ∙ append-nil xs ∙ sym (take_all (f + 1) xs (omega arith)) ∙ take_more xs f d (omega arith)
            ∙ ap (λ ys. (ys ++ take f xs) ++ get_or xs f d ∷ []) (sym (drop_all (f + 1) xs (omega arith)))
      ]

  pub from_take : (n : ℕ) (d : X) → 0 < n → n ≤ 1024 → take n (from f xs) ≡ get_or xs f d ∷ take (n - 1) (from (place f 1) xs)
  from_take n d p h =
      let rest = drop (f + 1) xs ++ take f xs in
      let few : n - 1 ≤ length rest = omega (arith, length-append (drop (f + 1) xs) (take f xs), length-drop (f + 1) xs, length-take-le f xs (omega arith)) in
      ap (take n) (from_next d) ∙ ap (λ (k : ℕ). take k (get_or xs f d ∷ rest)) (let e : n ≡ suc (n - 1) = omega arith in e)
      ∙ ap (λ ys. get_or xs f d ∷ ys) (sym (ap (take (n - 1)) (from_place d) ∙ take-append-le (n - 1) rest (get_or xs f d ∷ []) few))

  -- the first so many from a place on: within the ring, and past its end
  pub from_on : (n : ℕ) → f + n ≤ 1024 → take n (drop f xs) ≡ take n (from f xs)
  from_on n h = sym (take-append-le n (drop f xs) (take f xs) (omega (arith, length-drop f xs)))

  pub from_round : (n : ℕ) → 1024 ≤ f + n → n ≤ 1024 → drop f xs ++ take (f + n - 1024) xs ≡ take n (from f xs)
  from_round n h k =
      sym (ap (λ (i : ℕ). take i (from f xs)) (let e : n ≡ length (drop f xs) + (f + n - 1024) = omega (arith, length-drop f xs) in e)
      ∙ take-append-add (drop f xs) (take f xs) (f + n - 1024)
      ∙ ap (λ ys. drop f xs ++ ys) (take-take (f + n - 1024) f xs (omega arith)))

pub rolled_length : {P : Type 0} (r : Roll P) → length (rolled r) ≡ r.len
unfolding rolled
rolled_length r = length-take-le r.len (from r.first r.items) (omega (arith, from_length r.items r.first r.places r.begins))
