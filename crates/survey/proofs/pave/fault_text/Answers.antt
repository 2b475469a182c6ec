use Rattle.std.proofs.Common.{append_assoc, ◌≡◌, ◌++◌, ℕ}
use Rattle.std.proofs.lemmas.Result.{IfOk-weaker}
use Rattle.domain.specs.Refusals.{code}
use Rattle.listing.specs.Lines.{line_end}
use Rattle.readings.specs.Faults.{fault_text}
use Rattle.survey.specs.Texts.{fault_line}
use Rattle.survey.proofs.pave.fault_text.Goals as goal

ended : (number line : ℕ) → fault_text number line ++ line_end ≡ fault_line number line
ended number line = simp append_assoc

pub returns : goal.returns
returns c = IfOk-weaker c.format.result _ _ (λ s e. let h = ended (code c.args.fault.refusal) c.args.fault.line in cc) c.format.ensures.ok
