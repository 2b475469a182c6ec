use Rattle.std.proofs.Common.{ℕ, ◌++◌, Some, codes, decimal, subst}
use Rattle.std.specs.Fmt.{DisplaysOnOk}
use Rattle.domain.proofs.shown.RefusalDisplay.fmt.Goals as goal

pub returns-clause-writes : goal.returns-clause-writes
returns-clause-writes g c =
    subst (λ (n : ℕ). DisplaysOnOk g.W.Write.write_str_gives c.args.f.now c.write.result (Some (codes "refused with " ++ decimal n)) c.write.new.self) c.code-code.ensures c.write.ensures.writes
