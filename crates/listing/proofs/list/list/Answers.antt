use Rattle.std.proofs.Common.{string_bytes}
use Rattle.contractor.specs.Means.{means}
use Rattle.sheet.proofs.Opening.{opened_task}
use Rattle.listing.proofs.Closings.{finished, listed}
use Rattle.listing.proofs.list.list.Goals as goal

pub returns : goal.returns
returns g c =
    let d = g.P.Domain.maps in
    let m = means g.C.Contractor in
    let k = c.args.contractor in
    let task = opened_task d m k c.args.start c.args.grain c.open-sheet.result c.open-sheet.ensures.value in
    let paved = c.in_ok-pave.ensures in
    record {
      value = λ shown h. listed d m g.P.Display.output c.open-sheet.result c.pave.new.sheet (string_bytes c.pave.new.text) paved k c.args.start c.args.grain task g.met.P.Domain.lawful (g.met.C.Contractor.sound k) c.tally-tally.result c.tally-tally.ensures shown h (string_bytes c.write_sum.new.text) c.in_ok-write_sum.ensures;
      after = finished d m g.P.Display.output c.open-sheet.result c.pave.new.sheet (string_bytes c.pave.new.text) paved k c.args.start c.args.grain task;
    }
