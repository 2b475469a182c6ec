use Rattle.std.proofs.Common.{rules}
use Rattle.std.proofs.lemmas.Iterator.{cases_from_all, YieldsList-from_slice}
use Rattle.domain.specs.Maps.{Member}
use Rattle.domain.proofs.Members.{members_decided}
use Rattle.domain.proofs.domain.Domain.has_members.Goals as goal

pub returns : goal.returns
returns g c =
    let d = g.Self.Domain.maps in
    let x = c.args.self.now in
    members_decided d x c.args.numbers.now c.all.result
    (cases_from_all _ _ _ (Member d x) (λ n. Member d x n → ⊥) c.all.ensures.ran (YieldsList-from_slice c.args.numbers.now cc) (λ n q k. search rules) (λ n q k m. search rules))
