use Rattle.std.proofs.Common.{sym, ◌∙◌, arith}
use Rattle.std.proofs.lemmas.Fmt.{decimal_injective}
use Rattle.std.proofs.lemmas.Bool.Decides.{not_from_Decides}
use Rattle.numerals.proofs.read.read_positive.Goals as goal

pub returns-then-not-is_positive : goal.returns-then-not-is_positive
returns-then-not-is_positive c n l e =
    let d = c.in_ok-n.ensures in
    not_from_Decides c.is_positive.result c.is_positive.ensures c.if-not-is_positive.true
    (omega (arith, decimal_injective c.in_ok-n.n n (omega (arith, d.1)) (omega arith) (sym d.0 ∙ e)))
