use Rattle.std.proofs.Common.{rules, subst}
use Rattle.scan.specs.Live.{Last}
use Rattle.scan.proofs.Backward.{last_back}
use Rattle.scan.proofs.live.last_live.Goals as goal

pub returns : goal.returns
returns g c =
    let p = g.L.Live.live c.args.test.now in
    subst (λ s. Last p s.start s.end c.find.result) c.rev.ensures.source
    (last_back p _ (λ i q k. search rules) (λ i q k. search rules) _ _ _ c.find.ensures.ran)
