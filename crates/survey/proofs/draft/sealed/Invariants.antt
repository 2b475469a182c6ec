use Rattle.survey.proofs.Drafting.{Entering}
use Rattle.survey.proofs.draft.sealed.Given as goal

abbrev pub invariant-loop-reading : goal.invariant-loop-reading
invariant-loop-reading g l = Entering l.readings l.reading-index l.draft.memory.now l.draft.len
