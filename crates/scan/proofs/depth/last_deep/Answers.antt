use Rattle.std.proofs.Common.{ℕ, Bool, map, sym, ◌∙◌, rules, tests}
use Rattle.std.proofs.lemmas.Iterator.{YieldsList-from_slice, YieldsList-from_map}
use Rattle.std.proofs.lemmas.Iterator.Adapters.{option_map_id}
use Rattle.std.proofs.lemmas.Iterator.Consumers.{YieldsList-at, YieldsList-from_filter, max_from_yields_List}
use Rattle.scan.specs.Depth.{deep}
use Rattle.scan.proofs.Depths.{latest_found}
use Rattle.scan.proofs.depth.last_deep.Goals as goal

pub returns : goal.returns
returns g c =
    let f = g.S.Side.extent c.args.side.now in
    let t : ℕ → Bool = deep c.args.least (map f c.args.members.now) in
    latest_found t (map (λ n. (f n).high) c.args.members.now) c.max.result
    (sym (option_map_id _) ∙ max_from_yields_List c.filter.result _ c.max.ensures.ran
    (YieldsList-from_filter _ t (YieldsList-at c.filter.ensures.source (YieldsList-from_map _ (λ n. (f n).high) (YieldsList-at c.map.ensures.source (YieldsList-from_slice c.args.members.now cc)) c.map.ensures.closure (λ n r q k. search rules))) c.filter.ensures.closure (λ n r q k. search (rules, tests))))
