use Rattle.std.proofs.Common.{◌≡◌, ◌/◌, ◌%◌, ◌<◌, None, rules, arith}
use Rattle.dial.specs.Arcs.{arc_numbered}
use Rattle.dial.specs.Made.{arc_none}
use Rattle.dial.proofs.arc.piece.ArcDomain.from_number.Goals as goal

pub returns-in_err-start : goal.returns-in_err-start
returns-in_err-start c =
    let over : c.args.number / 4096 < 65536 → ⊥ = λ h. search rules in
    let none : arc_numbered c.args.number ≡ None = arc_none (c.args.number / 4096) (c.args.number % 4096) (λ v. over (omega (arith, v.0))) in
    search (rules, none)
