use Rattle.std.proofs.Common.{ℕ, ◌^◌, ◌<◌, ◌≤◌, ◌∙◌, arith, rules, tests}
use Rattle.std.proofs.lemmas.Nat.{one_shl}
use Rattle.std.proofs.lemmas.Iterator.{first_from_Range}
use Rattle.scan.proofs.Logs.{log_up_found}
use Rattle.scan.proofs.powers.log_up.Goals as goal

pub returns : goal.returns
returns c =
    c.unwrap_or.ensures
    ∙ log_up_found c.args.side c.find.result (omega arith)
    (first_from_Range _ _ _ _ (λ (i : ℕ). i < 32 → c.args.side ≤ 2 ^ i) (λ (i : ℕ). i < 32 → 2 ^ i < c.args.side) c.find.ensures.ran (λ i q k h. search (rules, tests, one_shl)) (λ i q k. search (rules, tests, one_shl)))
