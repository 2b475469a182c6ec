use Rattle.std.proofs.Common.{◌≡◌, ◌++◌}
use Rattle.domain.specs.Maps.{listed}
use Rattle.paving.specs.Steps.{entries}
use Rattle.sheet.specs.Stores.{Noted}
use Rattle.sheet.proofs.store.Store.note_strips.Given as goal

-- the strips that were given are recorded
abbrev pub invariant-loop-strip : goal.invariant-loop-strip
invariant-loop-strip g l = (listed l.fn.strips ≡ l.yielded ++ listed l.strip-iterator) × Noted l.initial.self (entries l.class l.yielded) l.self
