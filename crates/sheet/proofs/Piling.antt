-- A pile is the front of an array, turned round.
use Rattle.std.proofs.Common.{◌≡◌, ℕ, ◌+◌, ◌-◌, ◌<◌, List, [], ◌∷◌, reverse, length, get_or, take, set, ap, ◌∙◌, arith}
use Rattle.std.proofs.lemmas.List.{take_more, take_more_set, reverse-append, length-reverse, length-take-le}
use Rattle.sheet.specs.Piles.{waiting}
use Rattle.sheet.specs.declared.pile.Pile.{Pile}

module _ {X : Type 0} (xs : List X) (n : ℕ) where
  pub reverse_more : (d : X) → n < length xs → reverse (take (n + 1) xs) ≡ get_or xs n d ∷ reverse (take n xs)
  reverse_more d h = ap reverse (take_more xs n d h) ∙ reverse-append (take n xs) (get_or xs n d ∷ [])

  pub reverse_set : (y : X) → n < length xs → reverse (take (n + 1) (set xs n y)) ≡ y ∷ reverse (take n xs)
  reverse_set y h = ap reverse (take_more_set xs n y h) ∙ reverse-append (take n xs) (y ∷ [])

-- the last of the front, at any count from 1
pub reverse_top : {X : Type 0} (xs : List X) (n : ℕ) (d : X) → 0 < n → n - 1 < length xs → reverse (take n xs) ≡ get_or xs (n - 1) d ∷ reverse (take (n - 1) xs)
reverse_top xs n d p h = ap (λ (k : ℕ). reverse (take k xs)) (let e : n ≡ n - 1 + 1 = omega arith in e) ∙ reverse_more xs (n - 1) d h

pub reverse_pop : {X : Type 0} (xs : List X) (n : ℕ) → 0 < n → n - 1 < length xs → (x : X) × (reverse (take n xs) ≡ x ∷ reverse (take (n - 1) xs))
reverse_pop [] n p h = absurd (omega arith)
reverse_pop (x ∷ xs) n p h = (get_or (x ∷ xs) (n - 1) x, reverse_top (x ∷ xs) n x p h)

pub waiting_length : {P : Type 0} (p : Pile P) → length (waiting p) ≡ p.len
unfolding waiting
waiting_length p = length-reverse (take p.len p.items) ∙ length-take-le p.len p.items (omega arith)
