-- An answer is told by its numbers.
use Rattle.std.proofs.Common.{◌≡◌, ℕ, Bool, cond, List, [], ◌∷◌, map, get_or, Some, None, Decides, Option, sym, refl, ap, ◌∙◌, ap₂, arith}
use Rattle.std.proofs.Math.Dec.{eqb}
use Rattle.std.specs.Option.{option_map}
use Rattle.domain.specs.Laws.{Laws}
use Rattle.domain.specs.Maps.{Maps}
use Rattle.domain.specs.declared.refusal.Refusal.{Refusal}
use Rattle.domain.specs.declared.refusal.Refusal.TheVariants.{NotAPiece, BadGrain, OutOfRange, BadRadii, BadCone, DraftFull, MemoryFull, TooManyLiars, NoSuchMember, PanelTooLarge, NothingWaiting, RollFull, RollEmpty, NotAPoint, KeyNotDue, Malformed, CountDiffers, FileTooLarge}
use Rattle.paving.specs.Numbers.{place_code, stop_code}
use Rattle.paving.specs.declared.answers.Answer.{Answer}
use Rattle.paving.specs.declared.answers.Answer.TheVariants.{Stepped, Ran, Taken as Took, Found, Tallied, Refused}
use Rattle.paving.specs.declared.classes.Class.{Class}
use Rattle.paving.specs.declared.classes.Class.TheVariants.{Inside as inside, Outside as outside, Undecided as undecided}
use Rattle.paving.specs.declared.places.Place.{Place}
use Rattle.paving.specs.declared.places.Place.TheVariants.{Waiting, Inside, Outside, Undecided, Taken}
use Rattle.plays.specs.Numbered.{class_code, numbers}

-- classes, places, and what stops a run, each at its number
abbrev class_of : ℕ → Class
class_of n = get_or (undecided ∷ inside ∷ outside ∷ undecided ∷ []) n undecided

class_back : (c : Class) → class_of (class_code c) ≡ c
class_back inside = refl
class_back outside = refl
class_back undecided = refl

abbrev place_of : ℕ → Place
place_of n = get_or (Waiting ∷ Inside ∷ Outside ∷ Undecided ∷ Taken ∷ []) n Waiting

place_back : (p : Place) → place_of (place_code p) ≡ p
place_back Waiting = refl
place_back Inside = refl
place_back Outside = refl
place_back Undecided = refl
place_back Taken = refl

abbrev refusals : List (Option Refusal)
refusals =
    map Some
    (NotAPiece ∷ BadGrain ∷ OutOfRange ∷ BadRadii ∷ BadCone ∷ DraftFull ∷ MemoryFull ∷ TooManyLiars ∷ NoSuchMember ∷ PanelTooLarge ∷ NothingWaiting ∷ RollFull ∷ RollEmpty ∷ NotAPoint ∷ KeyNotDue ∷ Malformed ∷ CountDiffers ∷ FileTooLarge ∷ [])

abbrev stop_of : ℕ → Option Refusal
stop_of n = get_or (None ∷ refusals) n None

stop_back : (o : Option Refusal) → stop_of (stop_code o) ≡ o
stop_back None = refl
stop_back (Some NotAPiece) = refl
stop_back (Some BadGrain) = refl
stop_back (Some OutOfRange) = refl
stop_back (Some BadRadii) = refl
stop_back (Some BadCone) = refl
stop_back (Some DraftFull) = refl
stop_back (Some MemoryFull) = refl
stop_back (Some TooManyLiars) = refl
stop_back (Some NoSuchMember) = refl
stop_back (Some PanelTooLarge) = refl
stop_back (Some NothingWaiting) = refl
stop_back (Some RollFull) = refl
stop_back (Some RollEmpty) = refl
stop_back (Some NotAPoint) = refl
stop_back (Some KeyNotDue) = refl
stop_back (Some Malformed) = refl
stop_back (Some CountDiffers) = refl
stop_back (Some FileTooLarge) = refl

some_is : {X : Type 0} (a b : X) → Some a ≡ Some b → a ≡ b
some_is a b e = cc

module _ {P : Type 0} (d : Maps P) where
  -- the answer of these numbers
  abbrev pub answer_of : List ℕ → Option (Answer P)
  answer_of ns =
      let at : ℕ → ℕ = λ (i : ℕ). get_or ns i 0 in
      cond (eqb (at 0) 1) (Some (Stepped (at 1)))
      (cond (eqb (at 0) 2) (Some (Ran (record { accepted = at 1; refusal = stop_of (at 2) })))
      (cond (eqb (at 0) 3) (option_map (λ p. Took (record { label = at 1; class = class_of (at 2); piece = p })) (d.piece (at 3)))
      (cond (eqb (at 0) 4) (Some (Found (place_of (at 1))))
      (cond (eqb (at 0) 5)
      (Some
      (Tallied
      (record {
        waiting = at 1;
        roll = record { inside = at 2; outside = at 3; undecided = at 4 };
        taken = record { inside = at 5; outside = at 6; undecided = at 7 };
        steps = at 8;
        next_label = at 9;
      })))
      (option_map Refused (stop_of (at 1)))))))

  module _ (l : Laws d) where
    pub answer_back : (a : Answer P) → answer_of (numbers d a) ≡ Some a
    answer_back (Stepped n) = refl
    answer_back (Ran r) = ap (λ o. Some (Ran (record { accepted = r.accepted; refusal = o }))) (stop_back r.refusal)
    answer_back (Took r) = ap₂ (λ c o. option_map (λ p. Took (record { label = r.label; class = c; piece = p })) o) (class_back r.class) (l.numbered r.piece)
    answer_back (Found p) = ap (λ q. Some (Found q)) (place_back p)
    answer_back (Tallied y) = refl
    answer_back (Refused e) = ap (option_map Refused) (stop_back (Some e))

    -- answers of equal numbers are equal
    pub same_numbers : (a b : Answer P) → numbers d a ≡ numbers d b → a ≡ b
    same_numbers a b e = some_is a b (sym (answer_back a) ∙ ap answer_of e ∙ answer_back b)

    pub same_lists : (xs ys : List (Answer P)) → map (numbers d) xs ≡ map (numbers d) ys → xs ≡ ys
    same_lists [] [] e = refl
    same_lists [] (y ∷ ys) e = let z : ◌≡◌ {A = ℕ} 0 1 = cc in absurd (omega arith)
    same_lists (x ∷ xs) [] e = let z : ◌≡◌ {A = ℕ} 0 1 = cc in absurd (omega arith)
    same_lists (x ∷ xs) (y ∷ ys) e =
        let h : numbers d x ≡ numbers d y = cc in
        let t : map (numbers d) xs ≡ map (numbers d) ys = cc in
        ap₂ ◌∷◌ (same_numbers x y h) (same_lists xs ys t)

    -- what tells whether the answers are equal tells it of their numbers
    pub numbers_decided : (r : Bool) (xs ys : List (Answer P)) → Decides r (xs ≡ ys) → Decides r (map (numbers d) xs ≡ map (numbers d) ys)
    numbers_decided r xs ys w = (λ z. ap (map (numbers d)) (w.0 z), λ e. w.1 (same_lists xs ys e))
