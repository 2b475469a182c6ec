use Rattle.std.proofs.Common.{refl, arith}
use Rattle.dial.specs.Made.{arc_none, arc_own}
use Rattle.dial.proofs.arc.Arc.new.Goals as goal

pub returns-then-start-ge3600-clause-made : goal.returns-then-start-ge3600-clause-made
returns-then-start-ge3600-clause-made c =
    (arc_none c.args.start c.args.len (λ v. omega (arith, v.0, v.1, v.2, c.then-start-ge3600.either)), refl)

pub returns-clause-made : goal.returns-clause-made
returns-clause-made c = arc_own _
