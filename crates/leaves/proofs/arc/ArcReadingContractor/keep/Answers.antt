use Rattle.dial.specs.Arcs.{holds}
use Rattle.leaves.specs.Sweeps.{swept_short}
use Rattle.leaves.proofs.arc.ArcReadingContractor.keep.Goals as goal

pub along-requires : goal.along-requires
along-requires c = swept_short (holds c.args.self.now.arc) c.args.piece.now c.held_run.result c.held_run.ensures
