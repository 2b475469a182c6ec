use Rattle.std.proofs.Common.{◌<◌, length, refl, arith}
use Rattle.std.proofs.lemmas.List.{get_or_default}
use Rattle.contractor.specs.Means.{means}
use Rattle.sheet.specs.Standing.{task_of}
use Rattle.sheet.proofs.Opening.{opened_task}
use Rattle.plays.proofs.Gaming.{midway_more, unplayed, played_all}
use Rattle.plays.proofs.plays.play.Goals as goal

pub returns-then-turns-answers : goal.returns-then-turns-answers
returns-then-turns-answers g c =
    let d = g.C.Piece.Domain.maps in
    let m = means g.C.Contractor in
    unplayed d m c.args.contractor c.args.start c.args.grain c.args.turns.now g.met.C.Piece.Domain.lawful g.met.C.Contractor.sound c.args.answers.now c.args.answers.now c.open-sheet.result (opened_task d m c.args.contractor c.args.start c.args.grain c.open-sheet.result c.open-sheet.ensures.value) c.if-turns-answers.true refl c.open-sheet.ensures.stands

pub loop-i-preserved : goal.loop-i-preserved
loop-i-preserved g c =
    let d = g.C.Piece.Domain.maps in
    let m = means g.C.Contractor in
    let us = c.args.turns.now in
    let i = c.loop-i.i in
    let more : i < length us = omega arith in
    midway_more d m (task_of d m c.open-sheet.result) us i c.loop-i.sheet c.turn.new.self c.loop-i.answers _ c.turn.result more (omega arith) (get_or_default us i _ _ more) c.loop-i.invariant c.turn.ensures

pub returns : goal.returns
returns g c =
    let d = g.C.Piece.Domain.maps in
    let m = means g.C.Contractor in
    played_all d m c.args.contractor c.args.start c.args.grain c.args.turns.now g.met.C.Piece.Domain.lawful g.met.C.Contractor.sound c.args.answers.now c.loop-i.answers c.open-sheet.result c.loop-i.sheet c.loop-i.i (opened_task d m c.args.contractor c.args.start c.args.grain c.open-sheet.result c.open-sheet.ensures.value) c.if-turns-answers.false (omega (arith, c.loop-i.auto.answers)) (omega (arith, c.loop-i-test.false)) c.loop-i.invariant
