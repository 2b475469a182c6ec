use Rattle.std.proofs.Common.{refl}
use Rattle.survey.specs.Texts.{box_text}
use Rattle.survey.proofs.kinds.plane_text.Goals as goal

pub returns : goal.returns
returns c = c.in_ok-text.ensures box_text (λ p. refl)
