use Rattle.std.proofs.Common.{◌≡◌, Some, sym, ◌∙◌, ap₂}
use Rattle.std.proofs.lemmas.Option.{none-some}
use Rattle.dial.specs.declared.arc.Arc.{Arc}
use Rattle.dial.specs.Arcs.{span}
use Rattle.dial.proofs.Smallest.{span_or, span_answer}
use Rattle.dial.proofs.arc.piece.ArcDomain.span.Goals as goal
use Rattle.dial.proofs.arc.piece.ArcDomain.span.Goals.{in_default-via-in-Some+in_default, in_default-via-in_default}

pub returns-in_default : goal.returns-in_default
returns-in_default c =
    let apart : (p q : Arc) → c.args.one ≡ Some p → c.args.other ≡ Some q → ⊥ = λ p q e f. elim c.in_default.branch [
      | in_default-via-in-Some+in_default w ↦ none-some q (sym w.in_default.is-1 ∙ f)
      | in_default-via-in_default w ↦ none-some p (sym w.in_default.is-0 ∙ e)
    ] in
    let r = span_answer c.args.self.now c.args.one c.args.other c.or.result
    (c.takes.ensures.0 c.if-not-takes.false) (c.takes-else-not-takes.ensures.0 c.if-not-takes-2.false)
    (c.or.ensures ∙ span_or c.args.self.now c.args.one c.args.other apart) in
    record { value = r.0; smallest = r.1 }

pub returns-in-Some-Some : goal.returns-in-Some-Some
returns-in-Some-Some c =
    let r = span_answer c.args.self.now c.args.one c.args.other (Some c.spanning.result)
    (c.takes.ensures.0 c.if-not-takes.false) (c.takes-else-not-takes.ensures.0 c.if-not-takes-2.false)
    (sym (ap₂ (span c.args.self.now) c.in-Some-Some.is-0 c.in-Some-Some.is-1 ∙ c.spanning.ensures)) in
    record { value = r.0; smallest = r.1 }
