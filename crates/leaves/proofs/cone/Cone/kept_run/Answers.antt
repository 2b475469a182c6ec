use Rattle.std.proofs.Common.{◌∙◌}
use Rattle.leaves.proofs.Found.{same_over}
use Rattle.leaves.proofs.cone.Cone.kept_run.Goals as goal

pub returns : goal.returns
returns c = c.live_span.ensures ∙ same_over _ _ c.args.columns c.kept_by.ensures
