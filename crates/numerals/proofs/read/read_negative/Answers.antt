use Rattle.std.proofs.Common.{◌≡◌, suc, ◌-◌, decimal, sym, ap, ◌∙◌, arith}
use Rattle.std.proofs.lemmas.Fmt.{decimal_injective}
use Rattle.std.proofs.lemmas.Int.{ints}
use Rattle.std.proofs.lemmas.Bool.Decides.{not_from_Decides}
use Rattle.numerals.proofs.read.read_negative.Goals as goal

pub returns-then-not-is_negative : goal.returns-then-not-is_negative
returns-then-not-is_negative c n l e =
    let d = c.in_ok-n.ensures in
    let same = decimal_injective c.in_ok-n.n (suc n) (omega (arith, d.1)) (omega arith) (sym d.0 ∙ e) in
    not_from_Decides c.is_negative.result c.is_negative.ensures c.if-not-is_negative.true (omega (arith, same), omega (arith, same))

pub returns : goal.returns
returns c =
    let d = c.in_ok-n.ensures in
    let m = c.is_negative.ensures.0 c.if-not-is_negative.false in
    let more : c.in_ok-n.n ≡ suc (c.in_ok-n.n - 1) = omega (arith, m) in
    (c.in_ok-n.n - 1, omega (arith, ints, m.0, m.1), d.0 ∙ ap decimal more)
