-- Bytes cut in two at the first of one kind.
use Rattle.std.proofs.Common.{◌≡◌, ℕ, ◌+◌, ◌-◌, ◌<◌, List, [], ◌∷◌, ◌++◌, length, take, length-take, get_or-take, drop, sym, refl, ap, ◌∙◌, arith}
use Rattle.std.specs.List.{HoldsAt, AllWithin}
use Rattle.std.proofs.lemmas.List.Elements.{All-from_get_or, All-head, All-tail}
use Rattle.std.proofs.lemmas.List.{take-append-drop, drop_more, take_rest}
use Rattle.numerals.specs.Lists.{Without, Cut}

-- the first b stands at i
pub cut_first : (bs : List ℕ) (b i : ℕ) → i < length bs → HoldsAt (λ x. x ≡ b) bs i → AllWithin (λ x. x ≡ b → ⊥) bs 0 i → Cut b bs (take i bs) (take (length bs - (i + 1)) (drop (i + 1) bs))
cut_first bs b i h e w =
    record {
      parts =
          sym (take-append-drop i bs) ∙ ap (λ ys. take i bs ++ ys) (drop_more bs i 0 h ∙ ap (λ (x : ℕ). x ∷ drop (i + 1) bs) (e 0))
          ∙ ap (λ ys. take i bs ++ b ∷ ys) (sym (take_rest bs (i + 1)));
      first = All-from_get_or (λ x. x ≡ b → ⊥) (take i bs) 0 (λ k l. let m : k < i = omega (arith, simp length-take at l) in rw get_or-take (w k 0 (omega arith) m));
    }

heads : (x y : ℕ) (xs ys : List ℕ) → x ∷ xs ≡ y ∷ ys → x ≡ y
heads x y xs ys e = cc

tails : (x y : ℕ) (xs ys : List ℕ) → x ∷ xs ≡ y ∷ ys → xs ≡ ys
tails x y xs ys e = cc

without_head : (b x : ℕ) (xs : List ℕ) → Without b (x ∷ xs) → x ≡ b → ⊥
without_head b x xs w = All-head (λ y. y ≡ b → ⊥) x xs w

without_tail : (b x : ℕ) (xs : List ℕ) → Without b (x ∷ xs) → Without b xs
without_tail b x xs w = All-tail (λ y. y ≡ b → ⊥) x xs w

-- there is one way to cut
pub one_cut : (b : ℕ) (front back other rest : List ℕ) → Without b front → Without b other → front ++ b ∷ back ≡ other ++ b ∷ rest → (front ≡ other) × (back ≡ rest)
one_cut b [] back [] rest v w e = (refl, tails b b back rest e)
one_cut b [] back (y ∷ ys) rest v w e = absurd (without_head b y ys w (sym (heads b y back (ys ++ b ∷ rest) e)))
one_cut b (x ∷ xs) back [] rest v w e = absurd (without_head b x xs v (heads x b (xs ++ b ∷ back) rest e))
one_cut b (x ∷ xs) back (y ∷ ys) rest v w e =
    let r = one_cut b xs back ys rest (without_tail b x xs v) (without_tail b y ys w) (tails x y (xs ++ b ∷ back) (ys ++ b ∷ rest) e) in
    (ap (λ z. z ∷ xs) (heads x y (xs ++ b ∷ back) (ys ++ b ∷ rest) e) ∙ ap (λ zs. y ∷ zs) r.0, r.1)

-- bytes without b are not cut at b
pub never_cut : (b : ℕ) (xs front back : List ℕ) → Without b xs → xs ≡ front ++ b ∷ back → ⊥
never_cut b [] [] back w e = cc
never_cut b [] (y ∷ ys) back w e = cc
never_cut b (x ∷ xs) [] back w e = without_head b x xs w (heads x b xs back e)
never_cut b (x ∷ xs) (y ∷ ys) back w e = never_cut b xs ys back (without_tail b x xs w) (tails x y xs (ys ++ b ∷ back) e)
