use Rattle.std.proofs.Common.{ℕ, List, IfOk, Ok, Err, string_bytes, Result}
use Rattle.std.proofs.lemmas.Result.{IfOk-weaker}
use Rattle.readings.specs.Requests.{asked, fault_of}
use Rattle.survey.specs.Grounds.{Grounded}
use Rattle.survey.specs.Orders.{Ordered}
use Rattle.survey.specs.Texts.{Prints}
use Rattle.survey.proofs.Printing.{grounded, ordered}
use Rattle.survey.proofs.pave.pave.Goals as goal

module _ {X E : Type 0} (file : List ℕ) (text : X → List ℕ) (r : Result X E) (value : IfOk r (λ t. Prints file (text t))) where
  ground : IfOk r (λ t. Grounded file (text t))
  ground = IfOk-weaker r (λ t. Prints file (text t)) (λ t. Grounded file (text t)) (λ t p. grounded file (text t) p) value

  order : IfOk r (λ t. Ordered file (text t))
  order = IfOk-weaker r (λ t. Prints file (text t)) (λ t. Ordered file (text t)) (λ t p. ordered file (text t) p) value

pub returns-in-Ok : goal.returns-in-Ok
returns-in-Ok c =
    let file = c.args.file.now in
    let r = c.asked_text.result in
    let value : IfOk r (λ t. Prints file (string_bytes t)) =
    IfOk-weaker r _ (λ t. Prints file (string_bytes t)) (λ t l. record { came = Ok (asked c.in-Ok.asked); comes = c.in-Ok.ensures.value; says = l }) c.asked_text.ensures
    in
    record { value = value; ground = ground file string_bytes r value; order = order file string_bytes r value }

pub returns-in-Err : goal.returns-in-Err
returns-in-Err c =
    let file = c.args.file.now in
    let r = c.fault_text.result in
    let value : IfOk r (λ t. Prints file (string_bytes t)) =
    IfOk-weaker r _ (λ t. Prints file (string_bytes t)) (λ t l. record { came = Err (fault_of c.in-Err.fault); comes = c.in-Err.ensures.value; says = l }) c.fault_text.ensures
    in
    record { value = value; ground = ground file string_bytes r value; order = order file string_bytes r value }
