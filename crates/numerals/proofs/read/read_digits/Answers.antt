use Rattle.std.proofs.Common.{List, ℕ, ◌≡◌, Bor, arith}
use Rattle.std.proofs.lemmas.Bool.Decides.{not_from_Decides}
use Rattle.numerals.proofs.Digits.{shaped, first_digit, no_text, same_text, digits_read}
use Rattle.numerals.proofs.read.read_digits.Goals as goal
use Rattle.numerals.proofs.read.read_digits.Goals.{then-not-may_be_digits-via-then-not-may_be_digits, then-not-may_be_digits-via-else-not-may_be_digits+then-text-eq43}

pub returns-then-not-may_be_digits : goal.returns-then-not-may_be_digits
returns-then-not-may_be_digits c n l e =
    elim c.then-not-may_be_digits.branch [
      | then-not-may_be_digits-via-then-not-may_be_digits w ↦
          not_from_Decides c.may_be_digits.result c.may_be_digits.ensures w.if-not-may_be_digits.true (shaped c.args.text.now n l e)
      | then-not-may_be_digits-via-else-not-may_be_digits+then-text-eq43 w ↦ omega (arith, first_digit c.args.text.now n l e, w.if-text-eq43.true)
    ]

pub returns-in_err-ok : goal.returns-in_err-ok
returns-in_err-ok c = rw c.from_residual.ensures (no_text c.from_utf8.result _ _ c.args.text.now c.in_err-ok.ensures.value c.from_utf8.ensures.cases)

pub returns : goal.returns
returns c =
    let s = same_text c.from_utf8.result c.in_ok-ok.field-0 (λ (s : Bor (List ℕ)). s.now ≡ c.args.text.now) _ _ c.in_ok-ok.ensures.value c.from_utf8.ensures.cases in
    rw c.ok-2.ensures.value
    (digits_read c.args.text.now c.parse.result (c.may_be_digits.ensures.0 c.if-not-may_be_digits.false) c.if-text-eq43.false (rw s at c.parse.ensures.value.0))
