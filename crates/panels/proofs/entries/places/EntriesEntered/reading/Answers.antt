use Rattle.std.proofs.Common.{take, Some, sym, ap, ◌∙◌, arith}
use Rattle.std.proofs.lemmas.List.{get_or-take, length-take-le}
use Rattle.std.proofs.lemmas.Option.{slice_get-get_or, slice_get_past}
use Rattle.panels.proofs.entries.places.EntriesEntered.reading.Goals as goal

pub returns-then-place-self : goal.returns-then-place-self
returns-then-place-self g c =
    let entries = c.args.self.now in
    sym (slice_get_past (take entries.len entries.memory.now) c.args.place (omega (arith, length-take-le entries.len entries.memory.now entries.fits)))

pub returns : goal.returns
returns g c =
    let entries = c.args.self.now in
    let read = c.index-self-place.result in
    sym (
    slice_get-get_or (take entries.len entries.memory.now) c.args.place read (omega (arith, length-take-le entries.len entries.memory.now entries.fits))
    ∙ ap Some (get_or-take entries.len entries.memory.now c.args.place read (omega arith))
    )
