-- An arc as a contractor of the dial: its set is the points that it holds.
use Rattle.std.specs.Prelude.{ℕ, Bool, not, Option}
use Rattle.scan.specs.Live.{run}
use Rattle.dial.specs.Arcs.{point, holds, along}
use Rattle.dial.specs.declared.arc.Arc.{Arc}

-- the i-th point of x, counted from 0, is held by the arc; or is not held
abbrev pub held : Arc → Arc → ℕ → Bool
held a x i = holds a (point x.start i)

abbrev pub missed : Arc → Arc → ℕ → Bool
missed a x i = not (holds a (point x.start i))

-- from the first to the last point of x, in the order of x, that passes a test of its places
abbrev pub swept : (ℕ → Bool) → Arc → Option Arc
swept t x = along x (run t 0 x.len)

-- from the first to the last point of x that the arc holds; and that it does not hold
abbrev pub kept : Arc → Arc → Option Arc
kept a x = swept (held a x) x

abbrev pub dropped : Arc → Arc → Option Arc
dropped a x = swept (missed a x) x
