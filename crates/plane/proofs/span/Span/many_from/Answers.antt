use Rattle.std.proofs.Common.{sym, refl, arith}
use Rattle.plane.specs.Ends.{many_made, no_many}
use Rattle.plane.proofs.span.Span.many_from.Goals as goal

pub returns-then-many-eq0 : goal.returns-then-many-eq0
returns-then-many-eq0 c = sym (no_many c.args.first c.args.many (omega arith))

pub returns : goal.returns
returns c = sym (many_made c.args.first c.args.many _ (refl, omega arith))
