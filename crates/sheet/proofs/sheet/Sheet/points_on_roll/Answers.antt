use Rattle.std.proofs.Common.{◌+◌, ◌^◌, ◌∷◌, [], ◌++◌, length, map, drop, sym, ap, ◌∙◌, ap₂, arith}
use Rattle.std.proofs.lemmas.Iterator.{YieldsList-from_slice}
use Rattle.std.proofs.lemmas.Iterator.Consumers.{YieldsList-at, YieldsList-from_chain, YieldsList-so_far, YieldsList-turn, YieldsList-end}
use Rattle.std.proofs.lemmas.List.{map-append}
use Rattle.contractor.specs.Means.{means}
use Rattle.paving.specs.Laws.{points_at, points_in}
use Rattle.paving.specs.Turns.{points_of}
use Rattle.sheet.specs.Counts.{plus}
use Rattle.sheet.specs.Standing.{task_of}
use Rattle.sheet.proofs.Counting.{passed, plus_more, points_room, roll_fits}
use Rattle.sheet.proofs.sheet.Sheet.points_on_roll.Goals as goal

pub add_points-requires : goal.add_points-requires
add_points-requires g c =
    let s = c.args.self.now in
    let t = task_of g.C.Piece.Domain.maps (means g.C.Contractor) s in
    let road = YieldsList-at c.into_iter-record-iterator.ensures.into_iter_gives (YieldsList-from_chain (YieldsList-from_slice c.as_slices.result.0.now (cc)) (YieldsList-from_slice c.as_slices.result.1.now (cc)) (cc) (cc)) in
    let all = c.as_slices.result.0.now ++ c.as_slices.result.1.now in
    let ys = c.loop-record.yielded in
    let r = c.in-Some.record.now in
    let turn = YieldsList-turn road ys _ c.loop-record.yielded_by c.next.result _ c.in-Some.record c.in-Some.is c.next.ensures.steps in
    let whole = passed all (map (λ y. y.now) ys) (length ys) r (YieldsList-so_far road ys _ c.loop-record.yielded_by) turn.0 turn.1 in
    let few = roll_fits g.met.C.Piece.Domain.lawful g.met.C.Contractor.sound s in
    omega (arith, c.count.ensures, ap (λ q. points_at q r.class) c.loop-record.invariant, points_room t (map (λ y. y.now) ys) r (drop (length ys + 1) all) (2 ^ 64) (omega (arith, few, ap (λ rs. points_in (points_of t rs)) (whole ∙ c.as_slices.ensures))))

pub loop-record-preserved : goal.loop-record-preserved
loop-record-preserved g c =
    let t = task_of g.C.Piece.Domain.maps (means g.C.Contractor) c.args.self.now in
    let ys = c.loop-record.yielded in
    let r = c.in-Some.record in
    c.add_points.ensures ∙ ap₂ (λ q n. plus q r.now.class n) c.loop-record.invariant c.count.ensures
    ∙ plus_more t (map (λ y. y.now) ys) r.now
    ∙ ap (points_of t) (sym (map-append (λ y. y.now) ys (r ∷ [])))

pub returns : goal.returns
returns g c =
    let t = task_of g.C.Piece.Domain.maps (means g.C.Contractor) c.args.self.now in
    let road = YieldsList-at c.into_iter-record-iterator.ensures.into_iter_gives (YieldsList-from_chain (YieldsList-from_slice c.as_slices.result.0.now (cc)) (YieldsList-from_slice c.as_slices.result.1.now (cc)) (cc) (cc)) in
    c.loop-record.invariant
    ∙ ap (points_of t) ((YieldsList-end road c.loop-record.yielded _ c.loop-record.yielded_by c.next.result _ c.in-None.is c.next.ensures.steps).0 ∙ c.as_slices.ensures)
