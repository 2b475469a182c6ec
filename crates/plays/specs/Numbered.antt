-- Answers as numbers.
use Rattle.std.specs.Prelude.{ℕ, List, [], ◌∷◌}
use Rattle.domain.specs.Maps.{Maps}
use Rattle.domain.specs.Refusals.{code}
use Rattle.paving.specs.Numbers.{place_code, stop_code}
use Rattle.paving.specs.declared.answers.Answer.{Answer}
use Rattle.paving.specs.declared.answers.Answer.TheVariants.{Stepped, Ran, Taken, Found, Tallied, Refused}
use Rattle.paving.specs.declared.classes.Class.{Class}
use Rattle.paving.specs.declared.classes.Class.TheVariants.{Inside, Outside, Undecided}

-- as find answers it
abbrev pub class_code : Class → ℕ
class_code Inside = 1
class_code Outside = 2
class_code Undecided = 3

-- the kind of an answer, and all that it says
abbrev pub numbers : {P : Type 0} → Maps P → Answer P → List ℕ
numbers d (Stepped n) = 1 ∷ n ∷ 0 ∷ 0 ∷ 0 ∷ 0 ∷ 0 ∷ 0 ∷ 0 ∷ 0 ∷ []
numbers d (Ran r) = 2 ∷ r.accepted ∷ stop_code r.refusal ∷ 0 ∷ 0 ∷ 0 ∷ 0 ∷ 0 ∷ 0 ∷ 0 ∷ []
numbers d (Taken r) = 3 ∷ r.label ∷ class_code r.class ∷ d.number r.piece ∷ 0 ∷ 0 ∷ 0 ∷ 0 ∷ 0 ∷ 0 ∷ []
numbers d (Found p) = 4 ∷ place_code p ∷ 0 ∷ 0 ∷ 0 ∷ 0 ∷ 0 ∷ 0 ∷ 0 ∷ 0 ∷ []
numbers d (Tallied y) = 5 ∷ y.waiting ∷ y.roll.inside ∷ y.roll.outside ∷ y.roll.undecided ∷ y.taken.inside ∷ y.taken.outside ∷ y.taken.undecided ∷ y.steps ∷ y.next_label ∷ []
numbers d (Refused e) = 6 ∷ code e ∷ 0 ∷ 0 ∷ 0 ∷ 0 ∷ 0 ∷ 0 ∷ 0 ∷ 0 ∷ []
