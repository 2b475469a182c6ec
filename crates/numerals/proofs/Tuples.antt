-- A list of so many numbers, number by number.
use Rattle.std.proofs.Common.{◌≡◌, ℕ, List, [], ◌∷◌, get_or, map, ℤ, pos, sym, refl, ap₂, subst, arith, to_z, of_z, to_z-of_z, w32, SFits}
use Rattle.std.specs.List.{All}
use Rattle.std.proofs.lemmas.List.Elements.{All-head, All-tail}
use Rattle.numerals.specs.Lists.{Lists}

-- a number that is read into 32 signed bits stays what it is
abbrev pub held : ℤ → ℤ
held z = to_z w32 (of_z w32 z)

held_all : (zs : List ℤ) → All (SFits w32) zs → map held zs ≡ zs
held_all [] f = refl
held_all (z ∷ zs) f = ap₂ (λ x xs. x ∷ xs) (to_z-of_z (All-head (SFits w32) z zs f)) (held_all zs (All-tail (SFits w32) z zs f))

held_lists : (n : ℕ) (text : List ℕ) (zs : List ℤ) → Lists n text zs → Lists n text (map held zs)
held_lists n text zs l = subst (Lists n text) (sym (held_all zs l.fit)) l

pub four_listed : (text : List ℕ) (zs : List ℤ) → Lists 4 text zs → Lists 4 text (held (get_or zs 0 (pos 0)) ∷ held (get_or zs 1 (pos 0)) ∷ held (get_or zs 2 (pos 0)) ∷ held (get_or zs 3 (pos 0)) ∷ [])
four_listed text [] l = absurd (omega (arith, l.count))
four_listed text (a ∷ []) l = absurd (omega (arith, l.count))
four_listed text (a ∷ b ∷ []) l = absurd (omega (arith, l.count))
four_listed text (a ∷ b ∷ c ∷ []) l = absurd (omega (arith, l.count))
four_listed text (a ∷ b ∷ c ∷ d ∷ []) l = held_lists 4 text (a ∷ b ∷ c ∷ d ∷ []) l
four_listed text (a ∷ b ∷ c ∷ d ∷ e ∷ zs) l = absurd (omega (arith, l.count))

pub six_listed : (text : List ℕ) (zs : List ℤ) → Lists 6 text zs → Lists 6 text (held (get_or zs 0 (pos 0)) ∷ held (get_or zs 1 (pos 0)) ∷ held (get_or zs 2 (pos 0)) ∷ held (get_or zs 3 (pos 0)) ∷ held (get_or zs 4 (pos 0)) ∷ held (get_or zs 5 (pos 0)) ∷ [])
six_listed text [] l = absurd (omega (arith, l.count))
six_listed text (a ∷ []) l = absurd (omega (arith, l.count))
six_listed text (a ∷ b ∷ []) l = absurd (omega (arith, l.count))
six_listed text (a ∷ b ∷ c ∷ []) l = absurd (omega (arith, l.count))
six_listed text (a ∷ b ∷ c ∷ d ∷ []) l = absurd (omega (arith, l.count))
six_listed text (a ∷ b ∷ c ∷ d ∷ e ∷ []) l = absurd (omega (arith, l.count))
six_listed text (a ∷ b ∷ c ∷ d ∷ e ∷ f ∷ []) l = held_lists 6 text (a ∷ b ∷ c ∷ d ∷ e ∷ f ∷ []) l
six_listed text (a ∷ b ∷ c ∷ d ∷ e ∷ f ∷ g ∷ zs) l = absurd (omega (arith, l.count))
