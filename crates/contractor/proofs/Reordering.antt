-- The same members in another order pair off.
use Rattle.std.proofs.Common.{◌≡◌, ℕ, zero, suc, ◌<◌, ◌⊎◌, List, [], ◌∷◌, ◌++◌, map, length, get_or, set, sym, refl, ap, ◌∙◌, subst, ap₂, inl, inr, arith}
use Rattle.std.specs.List.{swap}
use Rattle.std.specs.List.Sorted.{IsPermutation}
use Rattle.std.proofs.lemmas.List.{append_assoc, map-append}
use Rattle.std.proofs.lemmas.List.Sorted.{IsPermutation-keeps}
use Rattle.domain.specs.Maps.{Maps}
use Rattle.contractor.specs.Meaning.{Meaning}
use Rattle.contractor.specs.Rearranged.{Paired}
use Rattle.contractor.specs.Rearranged.Rearranged.{same}
use Rattle.contractor.specs.Rearranged.Paired.{none as no_pairs, one as one_pair}

-- the first stands anywhere in the other list, and the rest are those left there, in some order
data Reordered {X : Type 0} : List X → List X → Type 0 where
  none : Reordered [] []
  one : {x : X} {xs : List X} (front back : List X) → Reordered xs (front ++ back) → Reordered (x ∷ xs) (front ++ x ∷ back)

module _ {X : Type 0} where
  reordered_refl : (xs : List X) → Reordered xs xs
  reordered_refl [] = none
  reordered_refl (x ∷ xs) = one [] xs (reordered_refl xs)

  -- two ways of cutting one list
  cut : (f g h : List X) (c : X) (k : List X) → f ++ g ≡ h ++ c ∷ k → ((m : List X) × (f ≡ h ++ c ∷ m) × (k ≡ m ++ g)) ⊎ ((m : List X) × (h ≡ f ++ m) × (g ≡ m ++ c ∷ k))
  cut [] g h c k e = inr (h, refl, e)
  cut (a ∷ f) g [] c k e = let p : a ≡ c = cc in let q : f ++ g ≡ k = cc in inl (f, ap (λ z. z ∷ f) p, sym q)
  cut (a ∷ f) g (b ∷ h) c k e =
      let p : a ≡ b = cc in
      let q : f ++ g ≡ h ++ c ∷ k = cc in
      elim (cut f g h c k q) [
        | inl m ↦ inl (m.0, ap₂ (λ (z : X) zs. z ∷ zs) p m.1, m.2)
        | inr m ↦ inr (m.0, ap₂ (λ (z : X) zs. z ∷ zs) (sym p) m.1, m.2)
      ]

  -- where an element of the one list stands in the other
  record Found (rest : List X) (y : X) (zs : List X) : Type 0 where
    front : List X
    back : List X
    whole : zs ≡ front ++ y ∷ back
    others : Reordered rest (front ++ back)

  found_on : (a : X) (rest f g : List X) (y : X) → Found rest y (f ++ g) → Found (a ∷ rest) y (f ++ a ∷ g)
  found_on a rest f g y n =
      elim (cut f g n.front y n.back n.whole) [
        | inl m ↦
            record {
              front = n.front;
              back = m.0 ++ a ∷ g;
              whole = ap (λ zs. zs ++ a ∷ g) m.1 ∙ append_assoc n.front (y ∷ m.0) (a ∷ g);
              others =
                  subst (Reordered (a ∷ rest)) (append_assoc n.front m.0 (a ∷ g))
                  (one (n.front ++ m.0) g (subst (Reordered rest) (ap (λ zs. n.front ++ zs) m.2 ∙ sym (append_assoc n.front m.0 g)) n.others));
            }
        | inr m ↦
            record {
              front = f ++ a ∷ m.0;
              back = n.back;
              whole = ap (λ zs. f ++ a ∷ zs) m.2 ∙ sym (append_assoc f (a ∷ m.0) (y ∷ n.back));
              others =
                  subst (Reordered (a ∷ rest)) (sym (append_assoc f (a ∷ m.0) n.back))
                  (one f (m.0 ++ n.back) (subst (Reordered rest) (ap (λ zs. zs ++ n.back) m.1 ∙ append_assoc f m.0 n.back) n.others));
            }
      ]

  found : (f : List X) (y : X) (g zs : List X) → Reordered (f ++ y ∷ g) zs → Found (f ++ g) y zs
  found [] y g zs (one front back h) = record { front = front; back = back; whole = refl; others = h }
  found (a ∷ f) y g zs (one front back h) = found_on a (f ++ g) front back y (found f y g (front ++ back) h)

  reordered_trans : {xs ys : List X} → Reordered xs ys → (zs : List X) → Reordered ys zs → Reordered xs zs
  reordered_trans none zs k = k
  reordered_trans (one {x = x} {xs = xs} front back h) zs k =
      let n = found front x back zs k in
      subst (Reordered (x ∷ xs)) (sym n.whole) (one n.front n.back (reordered_trans h (n.front ++ n.back) n.others))

  -- one element exchanged with the first, and any two exchanged
  first_exchanged : (a d : X) (xs : List X) (j : ℕ) → j < length xs → Reordered (a ∷ xs) (get_or xs j d ∷ set xs j a)
  first_exchanged a d [] j h = absurd (omega arith)
  first_exchanged a d (b ∷ xs) zero h = one (b ∷ []) xs (reordered_refl (b ∷ xs))
  first_exchanged a d (b ∷ xs) (suc j) h =
      reordered_trans (one (b ∷ []) xs (reordered_refl (b ∷ xs))) (get_or xs j d ∷ b ∷ set xs j a)
      (one (get_or xs j d ∷ []) (set xs j a) (first_exchanged a d xs j (omega arith)))

  two_exchanged : (d : X) (xs : List X) (i j : ℕ) → i < length xs → j < length xs → Reordered xs (set (set xs i (get_or xs j d)) j (get_or xs i d))
  two_exchanged d [] i j h k = absurd (omega arith)
  two_exchanged d (a ∷ xs) zero zero h k = reordered_refl (a ∷ xs)
  two_exchanged d (a ∷ xs) zero (suc j) h k = first_exchanged a d xs j (omega arith)
  two_exchanged d (a ∷ xs) (suc i) zero h k = first_exchanged a d xs i (omega arith)
  two_exchanged d (a ∷ xs) (suc i) (suc j) h k = one [] (set (set xs i (get_or xs j d)) j (get_or xs i d)) (two_exchanged d xs i j (omega arith) (omega arith))

  exchanged_reordered : (xs : List X) (i j : ℕ) → i < length xs → j < length xs → Reordered xs (swap xs i j)
  exchanged_reordered [] i j h k = none
  exchanged_reordered (d ∷ xs) i j h k = two_exchanged d (d ∷ xs) i j h k

  shuffled_reordered : (xs ys : List X) → IsPermutation xs ys → Reordered xs ys
  shuffled_reordered xs =
      IsPermutation-keeps xs (Reordered xs) (reordered_refl xs) (λ zs i j h k r. reordered_trans r (swap zs i j) (exchanged_reordered zs i j h k))

module _ {P : Type 0} (d : Maps P) {X : Type 0} (means : X → Meaning P) where
  reordered_paired : {xs ys : List X} → Reordered xs ys → Paired d (map means xs) (map means ys)
  reordered_paired none = no_pairs
  reordered_paired (one {x = x} {xs = xs} front back h) =
      subst (Paired d (means x ∷ map means xs)) (sym (map-append means front (x ∷ back)))
      (one_pair (map means front) (map means back) (same (record { keep = λ _. refl; shed = λ _. refl })) (subst (Paired d (map means xs)) (map-append means front back) (reordered_paired h)))

  -- readings in another order: the contractors that they mean pair off
  pub shuffled_paired : (xs ys : List X) → IsPermutation xs ys → Paired d (map means xs) (map means ys)
  shuffled_paired xs ys h = reordered_paired (shuffled_reordered xs ys h)
