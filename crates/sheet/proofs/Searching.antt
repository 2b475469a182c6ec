-- A search through the pile, and through the roll.
use Rattle.std.proofs.Common.{◌≡◌, ℕ, Bool, true, false, ◌||◌, cond, List, [], ◌∷◌, ◌++◌, Some, None, Ok, Err, Option, MatchOption, Bor, sym, refl, ap, ◌∙◌, ap₂, inl, inr}
use Rattle.std.specs.Option.{option_map, option_or}
use Rattle.std.specs.List.{list_any, find as find_in}
use Rattle.std.proofs.lemmas.Bool.{cases_Bool}
use Rattle.std.proofs.lemmas.List.Folds.{find-append}
use Rattle.domain.specs.declared.refusal.Refusal.TheVariants.{NotAPoint}
use Rattle.paving.specs.Sheet.{Task, State, roll}
use Rattle.paving.specs.Turns.{held, place_of, place_on, find, found}
use Rattle.paving.specs.declared.answers.Answer.{Answer}
use Rattle.paving.specs.declared.places.Place.{Place}
use Rattle.paving.specs.declared.places.Place.TheVariants.{Waiting, Taken}
use Rattle.paving.specs.declared.records.Record.{Record}
use Rattle.sheet.specs.Piles.{waiting}
use Rattle.sheet.specs.Rolls.{rolled}
use Rattle.sheet.specs.Shown.{Shows}
use Rattle.sheet.specs.declared.store.Store.{Store}

-- the place of a point whose first record on the roll is this
abbrev pub placed : {P : Type 0} → Option (Record P) → Place
placed None = Taken
placed (Some r) = place_of r.class

pub placed_by : {P N : Type 0} {Q : Bor (Record P) → Type 0} (o : Option (Bor (Record P))) (p : Place) → MatchOption o N Q → (N → p ≡ Taken) → ((x : Bor (Record P)) → Q x → p ≡ place_of x.now.class) → p ≡ placed (option_map (λ x. x.now) o)
placed_by None p m f h = f m
placed_by (Some x) p m f h = h x m

-- what is found in two lists, one after the other
pub found_in_either : {R N : Type 0} {Q : Bor R → Type 0} (p : R → Bool) (xs ys : List R) (o r : Option (Bor R)) → option_map (λ x. x.now) o ≡ find_in p xs → MatchOption o N Q → (N → option_map (λ x. x.now) r ≡ find_in p ys) → ((x : Bor R) → Q x → r ≡ Some x) → option_map (λ x. x.now) r ≡ find_in p (xs ++ ys)
found_in_either p xs ys None r e m f h = f m ∙ ap (λ q. option_or q (find_in p ys)) e ∙ sym (find-append p xs ys)
found_in_either p xs ys (Some x) r e m f h = ap (option_map (λ y. y.now)) (h x m) ∙ ap (λ q. option_or q (find_in p ys)) e ∙ sym (find-append p xs ys)

module _ {P : Type 0} (t : Task P) (n : ℕ) where
  -- the point is held where any of the pieces holds it
  pub held_any : (ps : List P) → list_any (λ p. t.maps.holds p n) ps ≡ held t n ps
  held_any [] = refl
  held_any (p ∷ ps) = ap (λ (b : Bool). t.maps.holds p n || b) (held_any ps)

  pub place_found : (rs : List (Record P)) → placed (find_in (λ r. t.maps.holds r.piece n) rs) ≡ place_on t n rs
  place_found [] = refl
  place_found (r ∷ rs) =
      elim (cases_Bool (t.maps.holds r.piece n)) [
        | inl e ↦ ap (λ (b : Bool). placed (cond b (Some r) (find_in (λ q. t.maps.holds q.piece n) rs))) e ∙ sym (ap (λ (b : Bool). elim b [ true ↦ place_of r.class | false ↦ place_on t n rs ]) e)
        | inr e ↦ ap (λ (b : Bool). placed (cond b (Some r) (find_in (λ q. t.maps.holds q.piece n) rs))) e ∙ place_found rs ∙ sym (ap (λ (b : Bool). elim b [ true ↦ place_of r.class | false ↦ place_on t n rs ]) e)
      ]

  module _ (s : Store P) (x : State P) (h : Shows t s x) where
    abbrev answer : Bool → Bool → Answer P
    answer b w = found (elim b [ true ↦ Ok (elim w [ true ↦ Waiting | false ↦ place_on t n (roll x) ]) | false ↦ Err NotAPoint ])

    pub find_no_point : t.maps.holds t.start n ≡ false → found (Err NotAPoint) ≡ found {P = P} (find t n x)
    find_no_point e = sym (ap (λ (b : Bool). answer b (held t n x.waiting)) e)

    pub find_waits : t.maps.holds t.start n ≡ true → held t n (waiting s.pile) ≡ true → found (Ok Waiting) ≡ found {P = P} (find t n x)
    find_waits e w = sym (ap₂ answer e (ap (held t n) (sym h.pile) ∙ w))

    pub find_on_roll : (p : Place) → t.maps.holds t.start n ≡ true → held t n (waiting s.pile) ≡ false → p ≡ place_on t n (rolled s.roll) → found (Ok p) ≡ found {P = P} (find t n x)
    find_on_roll p e w q = ap (λ i. found (Ok i)) (q ∙ ap (place_on t n) h.roll) ∙ sym (ap₂ answer e (ap (held t n) (sym h.pile) ∙ w))
