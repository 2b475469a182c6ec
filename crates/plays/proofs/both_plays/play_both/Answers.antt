use Rattle.std.proofs.Common.{sym, subst, arith, ◌+◌}
use Rattle.std.proofs.lemmas.List.{get_or_default}
use Rattle.std.proofs.lemmas.Bool.{both_ways}
use Rattle.contractor.specs.Means.{means}
use Rattle.sheet.specs.Standing.{task_of}
use Rattle.sheet.proofs.Opening.{opened_task}
use Rattle.plays.proofs.Gaming.{Alike, halfway_more, alike_more, unlike_more, played_both, sheet_of}
use Rattle.plays.proofs.both_plays.play_both.Goals as goal
use Rattle.plays.proofs.both_plays.play_both.Goals.{then-not-same_answers, else-not-same_answers}

pub loop-turn-preserved : goal.loop-turn-preserved
loop-turn-preserved g c =
    let d = g.A.Piece.Domain.maps in
    let us = c.args.turns.now in
    let i = c.loop-turn.turn-index in
    let t = task_of d (means g.A.Contractor) c.open-first.result in
    let q = task_of d (means g.B.Contractor) c.open-second.result in
    let here = get_or_default us i _ _ c.loop-turn-test.true in
    let x = halfway_more d (means g.A.Contractor) t us i c.loop-turn.first c.turn.new.self _ c.turn.result c.loop-turn-test.true here c.loop-turn.invariant.one c.turn.ensures in
    let y = halfway_more d (means g.B.Contractor) q us i c.loop-turn.second c.turn-in-loop-turn.new.self _ c.turn-in-loop-turn.result c.loop-turn-test.true here c.loop-turn.invariant.other c.turn-in-loop-turn.ensures in
    record {
      one = x.0;
      other = y.0;
      alike = elim c.if-not-same_answers.branch [
        | then-not-same_answers w ↦ subst (Alike t q us (i + 1)) (sym w.alike-is) (unlike_more t q us i c.loop-turn.alike c.turn.result c.turn-in-loop-turn.result x.1 y.1 (λ e. both_ways c.same_answers.result w.if-not-same_answers.true (c.same_answers.ensures.1 e)))
        | else-not-same_answers w ↦ subst (Alike t q us (i + 1)) (sym w.alike-is) (alike_more t q us i c.loop-turn.alike c.turn.result c.turn-in-loop-turn.result x.1 y.1 (c.same_answers.ensures.0 w.if-not-same_answers.false) c.loop-turn.invariant.alike)
      ];
    }

pub returns : goal.returns
returns g c =
    let d = g.A.Piece.Domain.maps in
    let us = c.args.turns.now in
    let i = c.loop-turn.turn-index in
    let one = opened_task d (means g.A.Contractor) c.args.one c.args.start c.args.grain c.open-first.result c.open-first.ensures.value in
    let other = opened_task d (means g.B.Contractor) c.args.other c.args.start c.args.grain c.open-second.result c.open-second.ensures.value in
    record {
      one = sheet_of d (means g.A.Contractor) c.args.one c.args.start c.args.grain us i c.open-first.result c.loop-turn.first one (omega (arith, c.loop-turn-test.false)) c.loop-turn.invariant.one;
      other = sheet_of d (means g.B.Contractor) c.args.other c.args.start c.args.grain us i c.open-second.result c.loop-turn.second other (omega (arith, c.loop-turn-test.false)) c.loop-turn.invariant.other;
      value = played_both d g.met.A.Piece.Domain.lawful (means g.A.Contractor c.args.one) (means g.B.Contractor c.args.other) c.args.start c.args.grain.size us i (task_of d (means g.A.Contractor) c.open-first.result) (task_of d (means g.B.Contractor) c.open-second.result) c.loop-turn.alike one other (omega (arith, c.loop-turn-test.false)) c.loop-turn.invariant.alike;
    }
