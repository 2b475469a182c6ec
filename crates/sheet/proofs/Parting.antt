-- What a cut comes to is what the definition of a step says.
use Rattle.std.proofs.Common.{◌≡◌, ℕ, ◌<◌, ◌≤◌, Bool, true, false, leb, [], ◌∷◌, ◌++◌, Some, Ok, Err, Option, Result, sym, refl, ap, ◌∙◌, subst, ap₂}
use Rattle.std.specs.Option.{option_to_list}
use Rattle.std.specs.Result.{IsOk}
use Rattle.std.proofs.lemmas.Bool.{eq-eqb, ne_eqb, le-leb, lt-leb}
use Rattle.domain.specs.Maps.{listed}
use Rattle.domain.specs.Refusals.{Given}
use Rattle.domain.specs.declared.refusal.Refusal.{Refusal}
use Rattle.paving.specs.Sheet.{Task}
use Rattle.paving.specs.Steps.{entries, without, left_undecided, put_back, entries_at, back_at}
use Rattle.paving.specs.declared.classes.Class.TheVariants.{Inside, Outside, Undecided}
use Rattle.sheet.specs.Cuts.{cut_back, CutOf}
use Rattle.sheet.specs.declared.cut.Cut.{Cut}

-- a call that is to give a value gives one, and it is as told
pub given_ok : {X : Type 0} (P : Type 0) (V : X → Type 0) (n : ℕ) (r : Result X Refusal) → Given r n P V → P → IsOk r
given_ok P V n (Ok x) g p = refl
given_ok P V n (Err e) g p = absurd (g.0 p)

pub given_value : {X : Type 0} (P : Type 0) (V : X → Type 0) (n : ℕ) (r : Result X Refusal) (x : X) → r ≡ Ok x → Given r n P V → V x
given_value P V n r x e g = (subst (λ q. Given q n P V) e g).1

module _ {P : Type 0} (t : Task P) where
  pub cut_made : (x p : P) (o : Option P) (c : Cut P) → t.shed p ≡ o → listed c.outside ≡ t.maps.strips x p → listed c.inside ≡ without t p o → option_to_list c.undecided ≡ left_undecided t o → cut_back c ≡ put_back t o → CutOf c (entries_at t x (Some p)) (back_at t (Some p))
  cut_made x p o c e a i u b =
      record {
        records =
            ap₂ (λ as' bs. entries Outside as' ++ bs) a (ap₂ (λ is us. entries Inside is ++ entries Undecided us) i u)
            ∙ ap (λ q. entries Outside (t.maps.strips x p) ++ (entries Inside (without t p q) ++ entries Undecided (left_undecided t q))) (sym e);
        back = b ∙ ap (put_back t) (sym e);
      }

  module _ (r : P) where
    pub one_left : t.maps.count r ≡ 1 → ([] ≡ left_undecided t (Some r)) × (r ∷ [] ≡ put_back t (Some r))
    one_left h = let e = eq-eqb (t.maps.count r) 1 h in
        (sym (ap (λ (b : Bool). elim b [ true ↦ [] | false ↦ elim (leb (t.maps.size r) t.grain) [ true ↦ r ∷ [] | false ↦ [] ] ]) e), sym (ap (λ (b : Bool). elim b [ true ↦ r ∷ [] | false ↦ elim (leb (t.maps.size r) t.grain) [ true ↦ [] | false ↦ (t.maps.halves r).0 ∷ (t.maps.halves r).1 ∷ [] ] ]) e))

    pub small_left : (t.maps.count r ≡ 1 → ⊥) → t.maps.size r ≤ t.grain → (r ∷ [] ≡ left_undecided t (Some r)) × ([] ≡ put_back t (Some r))
    small_left h k = let e = ne_eqb (t.maps.count r) 1 h in let f = le-leb (t.maps.size r) t.grain k in
        (sym (ap₂ (λ (b d : Bool). elim b [ true ↦ [] | false ↦ elim d [ true ↦ r ∷ [] | false ↦ [] ] ]) e f), sym (ap₂ (λ (b d : Bool). elim b [ true ↦ r ∷ [] | false ↦ elim d [ true ↦ [] | false ↦ (t.maps.halves r).0 ∷ (t.maps.halves r).1 ∷ [] ] ]) e f))

    pub large_left : (t.maps.count r ≡ 1 → ⊥) → t.grain < t.maps.size r → ([] ≡ left_undecided t (Some r)) × ((t.maps.halves r).0 ∷ (t.maps.halves r).1 ∷ [] ≡ put_back t (Some r))
    large_left h k = let e = ne_eqb (t.maps.count r) 1 h in let f = lt-leb (t.maps.size r) t.grain k in
        (sym (ap₂ (λ (b d : Bool). elim b [ true ↦ [] | false ↦ elim d [ true ↦ r ∷ [] | false ↦ [] ] ]) e f), sym (ap₂ (λ (b d : Bool). elim b [ true ↦ r ∷ [] | false ↦ elim d [ true ↦ [] | false ↦ (t.maps.halves r).0 ∷ (t.maps.halves r).1 ∷ [] ] ]) e f))
