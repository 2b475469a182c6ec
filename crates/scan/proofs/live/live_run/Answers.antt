use Rattle.std.proofs.Common.{◌∙◌}
use Rattle.scan.proofs.Runs.{run_none, run_some}
use Rattle.scan.proofs.live.live_run.Goals as goal

pub returns-in_err-low : goal.returns-in_err-low
returns-in_err-low g c =
    c.from_residual.ensures ∙ run_none (g.L.Live.live c.args.test.now) c.args.from c.args.to c.in_err-low.ensures

pub returns : goal.returns
returns g c =
    run_some (g.L.Live.live c.args.test.now) c.args.from c.args.to c.in_ok-low.low c.in_ok-high.high c.in_ok-low.ensures c.in_ok-high.ensures
