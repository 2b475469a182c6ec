use Rattle.std.proofs.Common.{◌∙◌}
use Rattle.scan.proofs.Depths.{deep_none, deep_both, deep_some}
use Rattle.scan.proofs.depth.deep_run.Goals as goal

pub returns-in_err-low : goal.returns-in_err-low
returns-in_err-low g c b some ends =
    c.from_residual.ensures ∙ deep_none c.args.least (g.S.Side.extent c.args.side.now) c.args.members.now b some ends c.in_err-low.ensures

pub returns-in_err-high : goal.returns-in_err-high
returns-in_err-high g c b some ends =
    absurd (deep_both c.args.least (g.S.Side.extent c.args.side.now) c.args.members.now b some ends c.in_ok-low.low c.in_ok-low.ensures c.in_err-high.ensures)

pub returns : goal.returns
returns g c b some ends =
    deep_some c.args.least (g.S.Side.extent c.args.side.now) c.args.members.now b some ends c.in_ok-low.low c.in_ok-high.high c.in_ok-low.ensures c.in_ok-high.ensures
