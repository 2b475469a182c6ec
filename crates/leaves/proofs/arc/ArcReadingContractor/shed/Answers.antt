use Rattle.std.proofs.Common.{not}
use Rattle.dial.specs.Arcs.{holds}
use Rattle.leaves.specs.Sweeps.{swept_short}
use Rattle.leaves.proofs.arc.ArcReadingContractor.shed.Goals as goal

pub along-requires : goal.along-requires
along-requires c = swept_short (λ n. not (holds c.args.self.now.arc n)) c.args.piece.now c.missed_run.result c.missed_run.ensures
