use Rattle.std.proofs.Common.{ℤ, sym, subst, to_z-of_z, w32, SFits, rules}
use Rattle.numerals.proofs.Commas.{Headed, headed, first_of}
use Rattle.numerals.proofs.Cuts.{never_cut}
use Rattle.std.specs.Fmt.{signed_decimal}
use Rattle.numerals.proofs.values.first_number.Goals as goal

pub returns-in_err-front : goal.returns-in_err-front
returns-in_err-front c =
    rw c.from_residual.ensures (λ z rest f e. never_cut 44 c.args.text.now (signed_decimal z) rest c.in_err-front.ensures e)

pub returns-in_err-read_number : goal.returns-in_err-read_number
returns-in_err-read_number c =
    rw c.from_residual-in_err-read_number.ensures (λ z rest f e.
    let r = first_of z c.in_ok-front.front.now c.in_ok-front.rest.now rest c.args.text.now f c.in_ok-front.ensures e in
    c.in_err-read_number.ensures z f r.0)

pub returns : goal.returns
returns c =
    let z = c.in_ok-read_number.field-0 in
    let f : SFits w32 c.in_ok-read_number.field-0 = search rules in
    subst (λ (y : ℤ). Headed c.args.text.now y c.in_ok-front.rest.now × SFits w32 y) (sym (to_z-of_z f))
    (headed z c.args.text.now c.in_ok-front.front.now c.in_ok-front.rest.now c.in_ok-front.ensures c.in_ok-read_number.ensures, f)
