use Rattle.std.proofs.Common.{string_bytes, refl, arith, rules}
use Rattle.std.proofs.lemmas.Bool.{false≢true}
use Rattle.contractor.specs.Means.{means}
use Rattle.listing.proofs.Pavings.{begun_run, round_same, round_less, round_last}
use Rattle.listing.proofs.rounds.pave.Goals as goal

pub take_all-requires : goal.take_all-requires
take_all-requires g c =
    let m = means g.C.Contractor in
    (search rules, begun_run g.P.Domain.maps g.met.P.Domain.lawful m g.met.C.Contractor.sound g.P.Display.output c.loop-ran.sheet c.run-ran.new.self 4294967295 c.run-ran.result c.run-ran.ensures (string_bytes c.loop-ran.text) c.loop-ran.invariant.1.begun)

pub loop-ran-preserved : goal.loop-ran-preserved
loop-ran-preserved g c =
    let m = means g.C.Contractor in
    let e = c.in_ok-take_all.ensures in
    (round_same g.P.Domain.maps g.met.P.Domain.lawful m g.met.C.Contractor.sound g.P.Display.output c.loop-ran.sheet c.run-ran.new.self 4294967295 c.run-ran.result c.run-ran.ensures c.take_all.new.sheet (string_bytes c.loop-ran.text) (string_bytes c.take_all.new.text) e c.args.sheet.now c.loop-ran.invariant.0, e.clear)

pub loop-ran-smaller : goal.loop-ran-smaller
loop-ran-smaller g c =
    let m = means g.C.Contractor in
    round_less g.P.Domain.maps g.met.P.Domain.lawful m g.met.C.Contractor.sound g.P.Display.output c.loop-ran.sheet c.run-ran.new.self 4294967295 c.run-ran.result c.run-ran.ensures c.take_all.new.sheet (string_bytes c.loop-ran.text) (string_bytes c.take_all.new.text) c.in_ok-take_all.ensures (omega arith) c.loop-ran.invariant.1 (λ e. false≢true (c.if-is_paved.ensures.1 e))

pub returns-then-is_paved : goal.returns-then-is_paved
returns-then-is_paved g c =
    let m = means g.C.Contractor in
    round_last g.P.Domain.maps g.met.P.Domain.lawful m g.met.C.Contractor.sound g.P.Display.output c.loop-ran.sheet c.run-ran.new.self 4294967295 c.run-ran.result c.run-ran.ensures c.take_all.new.sheet (string_bytes c.loop-ran.text) (string_bytes c.take_all.new.text) c.in_ok-take_all.ensures c.args.sheet.now c.loop-ran.invariant.0 c.loop-ran.invariant.1.begun (c.if-is_paved.ensures.0 refl)
