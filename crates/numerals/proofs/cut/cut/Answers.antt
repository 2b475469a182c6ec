use Rattle.std.proofs.Common.{◌≡◌, Some, rules, tests}
use Rattle.std.proofs.lemmas.Iterator.{IsFirst-from_position, YieldsList-from_slice}
use Rattle.numerals.proofs.Cuts.{cut_first}
use Rattle.numerals.proofs.cut.cut.Goals as goal

pub returns : goal.returns
returns c =
    let bs = c.args.bytes.now in
    let f = IsFirst-from_position _ _ (Some c.in_ok-i.i) (λ x. x ≡ c.args.at) (λ x. x ≡ c.args.at → ⊥) c.in_ok-i.ensures.ran (YieldsList-from_slice bs cc) (λ x q k. search (rules, tests)) (λ x q k. search (rules, tests)) in
    cut_first bs c.args.at c.in_ok-i.i f.0 f.1 f.2
