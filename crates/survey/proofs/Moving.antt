-- Lines in another order are the lines of readings in another order.
use Rattle.std.proofs.Common.{◌≡◌, ℕ, zero, suc, List, [], ◌∷◌, ◌++◌, map, get_or, set, sym, refl, ap, ◌∙◌, subst, ap₂}
use Rattle.std.specs.List.{swap, flat_map}
use Rattle.std.specs.List.Sorted.{apply_swaps, SwapsInRange, IsPermutation}
use Rattle.std.proofs.lemmas.List.{length-map, map-set}

module _ {X Y : Type 0} (f : X → Y) where
  get_or_mapped : (xs : List X) (i : ℕ) (e : X) → get_or (map f xs) i (f e) ≡ f (get_or xs i e)
  get_or_mapped [] i e = refl
  get_or_mapped (x ∷ xs) zero e = refl
  get_or_mapped (x ∷ xs) (suc i) e = get_or_mapped xs i e

  exchanged_map : (xs : List X) (i j : ℕ) → swap (map f xs) i j ≡ map f (swap xs i j)
  exchanged_map [] i j = refl
  exchanged_map (e ∷ ys) i j =
      let xs = e ∷ ys in
      let a = get_or xs j e in
      let b = get_or xs i e in
      ap₂ (λ p q. set (set (map f xs) i p) j q) (get_or_mapped xs j e) (get_or_mapped xs i e)
      ∙ ap (λ l. set l j (f b)) (sym (map-set f xs i a))
      ∙ sym (map-set f (set xs i a) j b)

  moved_map : (xs : List X) (ps : List (ℕ × ℕ)) → apply_swaps (map f xs) ps ≡ map f (apply_swaps xs ps)
  moved_map xs [] = refl
  moved_map xs (p ∷ ps) = ap (λ l. swap l p.0 p.1) (moved_map xs ps) ∙ exchanged_map (apply_swaps xs ps) p.0 p.1

  -- what comes of a list that was mapped is mapped of what comes of the list
  pub unmapped : (xs : List X) (ys : List Y) → IsPermutation (map f xs) ys → (zs : List X) × (ys ≡ map f zs) × IsPermutation xs zs
  unmapped xs ys h = (
    apply_swaps xs h.moves,
    h.is ∙ moved_map xs h.moves,
    record { moves = h.moves; below = subst (λ (n : ℕ). SwapsInRange n h.moves) (length-map xs f) h.below; is = refl },
  )

pub joined_map : {X A : Type 0} (f : X → List A) (xs : List X) → flat_map (λ l. l) (map f xs) ≡ flat_map f xs
joined_map f [] = refl
joined_map f (x ∷ xs) = ap (λ l. f x ++ l) (joined_map f xs)
