use Rattle.std.proofs.Common.{refl}
use Rattle.survey.specs.Texts.{arc_text}
use Rattle.survey.proofs.kinds.dial_text.Goals as goal

pub returns : goal.returns
returns c = c.in_ok-text.ensures arc_text (λ p. refl)
