use Rattle.std.proofs.Common.{sym, arith}
use Rattle.plane.specs.Ends.{span_none, span_own}
use Rattle.plane.proofs.span.Span.from_stretch.Goals as goal

pub returns-then-stretch : goal.returns-then-stretch
returns-then-stretch c =
    let s = c.args.stretch in
    sym (span_none s.low s.high (λ v. omega (arith, v, c.then-stretch.either)))

pub returns : goal.returns
returns c = sym (span_own _)
