use Rattle.std.proofs.Common.{◌≡◌, Some, None, refl, inl, inr, arith}
use Rattle.std.proofs.lemmas.Result.{err_from_is_err_and}
use Rattle.std.proofs.lemmas.Slice.Eq.{strip_prefix_is}
use Rattle.domain.specs.declared.refusal.Refusal.TheVariants.{KeyNotDue}
use Rattle.readings.proofs.line.Line.value.Goals as goal
use Rattle.std.proofs.lemmas.Bool.Decides.{Decides-eqb}

pub returns-in_err-value : goal.returns-in_err-value
returns-in_err-value c =
    let p = err_from_is_err_and c.from_residual.result c.from_residual.ensures.1 in
    let n : c.strip_prefix.result ≡ None = grind arith in
    let s = strip_prefix_is Decides-eqb c.args.self.text.now c.args.key.now c.strip_prefix.result c.strip_prefix.ensures.cases in
    let k : c.in_err-value.field-0.0 ≡ KeyNotDue = let v = rw n at c.in_err-value.ensures.value in cc in
    rw (p.1, p.2, k) (inl (rw n at s, refl))

pub returns-then-not-self : goal.returns-then-not-self
returns-then-not-self c =
    let n : c.strip_prefix.result ≡ Some c.in_ok-value.value = grind arith in
    let s = strip_prefix_is Decides-eqb c.args.self.text.now c.args.key.now c.strip_prefix.result c.strip_prefix.ensures.cases in
    inr (c.in_ok-value.value.now, rw n at s, c.if-not-self.true, refl)

pub returns : goal.returns
returns c =
    let n : c.strip_prefix.result ≡ Some c.in_ok-value.value = grind arith in
    let s = strip_prefix_is Decides-eqb c.args.self.text.now c.args.key.now c.strip_prefix.result c.strip_prefix.ensures.cases in
    (rw n at s, c.if-not-self.false)
