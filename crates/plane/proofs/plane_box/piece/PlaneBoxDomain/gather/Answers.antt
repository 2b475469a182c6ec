use Rattle.std.proofs.Common.{◌<◌, ◌∙◌, ap₂, arith}
use Rattle.plane.specs.Boxes.{crossing}
use Rattle.plane.specs.Made.{crossed_by}
use Rattle.plane.proofs.Numbered.{gathered_from, crossing_from}
use Rattle.plane.proofs.plane_box.piece.PlaneBoxDomain.gather.Goals as goal

pub returns : goal.returns
returns c =
    let x = c.args.self.now in
    let ns = c.args.members.now in
    let k : 0 < c.args.depth = omega arith in
    let m = c.has_members.ensures.0 c.if-not-has_members.false in
    let s = c.deep_span.ensures in
    let t = c.deep_span-2.ensures in
    let e = c.crossing.ensures ∙ ap₂ crossing s.2 t.2 ∙ crossed_by s.0 t.0 in
    record {
      value = ((k, m), gathered_from x ns c.args.depth k s.0 t.0 s.1 t.1 m c.crossing.result e);
      runs = crossing_from x ns c.args.depth k s.0 t.0 s.1 t.1 m c.crossing.result e;
    }
