use Rattle.std.proofs.Common.{string_bytes}
use Rattle.contractor.specs.Means.{means}
use Rattle.listing.proofs.Turns.{emptying_more, roll_shorter, emptied}
use Rattle.listing.proofs.rounds.take_all.Goals as goal

pub loop-record-smaller : goal.loop-record-smaller
loop-record-smaller g c =
    let m = means g.C.Contractor in
    roll_shorter g.P.Domain.maps g.met.P.Domain.lawful m g.met.C.Contractor.sound g.P.Display.output c.args.sheet.now c.loop-record.sheet c.take.new.self (string_bytes c.loop-record.text) c.loop-record.invariant c.in-Ok.record c.in-Ok.ensures

pub loop-record-preserved : goal.loop-record-preserved
loop-record-preserved g c =
    let m = means g.C.Contractor in
    emptying_more g.P.Domain.maps g.met.P.Domain.lawful m g.met.C.Contractor.sound g.P.Display.output c.args.sheet.now c.loop-record.sheet c.take.new.self (string_bytes c.loop-record.text) c.loop-record.invariant c.in-Ok.record (string_bytes c.write_record.new.text) c.in-Ok.ensures c.in_ok-write_record.ensures

pub returns : goal.returns
returns g c =
    let m = means g.C.Contractor in
    emptied g.P.Domain.maps g.met.P.Domain.lawful m g.met.C.Contractor.sound g.P.Display.output c.args.sheet.now c.loop-record.sheet c.take.new.self (string_bytes c.loop-record.text) c.loop-record.invariant c.in_default.field-0 c.in_default.ensures
