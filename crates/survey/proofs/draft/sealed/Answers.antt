use Rattle.survey.proofs.Drafting.{entering_on}
use Rattle.survey.proofs.draft.sealed.Goals as goal

pub loop-reading-preserved : goal.loop-reading-preserved
loop-reading-preserved g c =
    entering_on c.loop-reading.invariant c.loop-reading-test.true c.enter.result c.reading-item.result c.reading-item.is c.enter.ensures.value
