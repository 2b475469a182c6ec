use Rattle.std.proofs.Common.{length}
use Rattle.cases.proofs.escaped.unescaped.Given as goal

abbrev pub decreases-loop-byte : goal.decreases-loop-byte
decreases-loop-byte l = length l.left
