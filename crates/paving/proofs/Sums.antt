-- Sums over the pieces of records, by class.
use Rattle.std.proofs.Common.{◌≡◌, ℕ, ◌+◌, ◌⊎◌, List, [], ◌∷◌, sum_by, refl, ◌∙◌, inl, inr, arith}
use Rattle.std.proofs.lemmas.List.Sums.{sum_by-cons}
use Rattle.paving.specs.Sheet.{pieces, of_class, put}
use Rattle.paving.specs.declared.classes.Class.{Class}
use Rattle.paving.specs.declared.classes.Class.TheVariants.{Inside, Outside, Undecided}
use Rattle.paving.specs.declared.records.Record.{Record}

-- a piece is put in front of those of its own class, and of no other
pub put_is : {P : Type 0} (c e : Class) (p : P) (ps : List P) → ((c ≡ e) × (put c e p ps ≡ p ∷ ps)) ⊎ (put c e p ps ≡ ps)
put_is Inside Inside p ps = inl (refl, refl)
put_is Inside Outside p ps = inr refl
put_is Inside Undecided p ps = inr refl
put_is Outside Inside p ps = inr refl
put_is Outside Outside p ps = inl (refl, refl)
put_is Outside Undecided p ps = inr refl
put_is Undecided Inside p ps = inr refl
put_is Undecided Outside p ps = inr refl
put_is Undecided Undecided p ps = inl (refl, refl)

-- a sum over the pieces of records, by class
by_class_more : {P : Type 0} (f : P → ℕ) (c : Class) (p : P) (is os us : List P) (k : ℕ) → k ≡ sum_by f is + sum_by f os + sum_by f us → f p + k ≡ sum_by f (put Inside c p is) + sum_by f (put Outside c p os) + sum_by f (put Undecided c p us)
by_class_more f Inside p is os us k e = omega (arith, sum_by-cons f p is)
by_class_more f Outside p is os us k e = omega (arith, sum_by-cons f p os)
by_class_more f Undecided p is os us k e = omega (arith, sum_by-cons f p us)

pub by_class : {P : Type 0} (f : P → ℕ) (rs : List (Record P)) → sum_by f (pieces rs) ≡ sum_by f (of_class Inside rs) + sum_by f (of_class Outside rs) + sum_by f (of_class Undecided rs)
by_class f [] = refl
by_class f (r ∷ rs) =
    sum_by-cons f r.piece (pieces rs)
    ∙ by_class_more f r.class r.piece (of_class Inside rs) (of_class Outside rs) (of_class Undecided rs) (sum_by f (pieces rs)) (by_class f rs)
