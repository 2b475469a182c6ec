use Rattle.std.proofs.Common.{◌≡◌, ℕ, cond, ◌∙◌, arith, rules}
use Rattle.std.proofs.lemmas.Iterator.{YieldsList-from_slice, YieldsList-from_map}
use Rattle.std.proofs.lemmas.Iterator.Consumers.{YieldsList-at, sum_by_from_yields_List, fits_by_from_yields_list}
use Rattle.std.proofs.lemmas.List.Sums.{count_by-le-length}
use borrow.Author.Tests.{tests}
use Rattle.scan.specs.Depth.{covers}
use Rattle.scan.proofs.Depths.{depth_of}
use Rattle.scan.proofs.depth.depth_at.Goals as goal

pub sum-requires-clause-fits : goal.sum-requires-clause-fits
sum-requires-clause-fits g c =
    let ns = c.args.members.now in
    let f : ℕ → ℕ = λ n. cond (covers (g.S.Side.extent c.args.side.now n) c.args.index) 1 0 in
    fits_by_from_yields_list f ns c.map.result _ (YieldsList-from_map _ f (YieldsList-at c.map.ensures.source (YieldsList-from_slice ns (cc))) c.map.ensures.closure (λ x r q k. search (rules, tests)))
    (omega (arith, count_by-le-length (λ n. covers (g.S.Side.extent c.args.side.now n) c.args.index) ns))

pub returns : goal.returns
returns g c =
    let ns = c.args.members.now in
    let f : ℕ → ℕ = λ n. cond (covers (g.S.Side.extent c.args.side.now n) c.args.index) 1 0 in
    sum_by_from_yields_List f ns c.map.result c.sum.result c.sum.ensures.ran (YieldsList-from_map _ f (YieldsList-at c.map.ensures.source (YieldsList-from_slice ns (cc))) c.map.ensures.closure (λ x r q k. search (rules, tests)))
    ∙ depth_of (g.S.Side.extent c.args.side.now) c.args.index ns
