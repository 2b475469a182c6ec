-- A strip of an arc, where there may be none.
use Rattle.std.proofs.Common.{◌≡◌, ℕ, eqb, not, Some, None, Option, IfSome, sym, ap, ◌∙◌, inl, inr, arith}
use Rattle.std.specs.Option.{is_some}
use Rattle.std.proofs.lemmas.Bool.{cases_eq}
use Rattle.std.proofs.lemmas.Bool.Decides.{nat_tests}
use Rattle.dial.specs.declared.arc.Arc.{Arc}
use Rattle.dial.specs.Arcs.{part}
use Rattle.dial.specs.Slices.{sliced_none}

pub strip_part : (a : Arc) (i m : ℕ) (r : Option Arc) → is_some r ≡ not (eqb m 0) → IfSome r (λ s. part a i m ≡ Some s) → r ≡ part a i m
strip_part a i m (Some s) e f = sym f
strip_part a i m None e f =
    elim (cases_eq m 0) [
      | inl z ↦ sym (ap (λ (k : ℕ). part a i k) z ∙ sliced_none a i)
      | inr n ↦ grind (arith, nat_tests)
    ]
