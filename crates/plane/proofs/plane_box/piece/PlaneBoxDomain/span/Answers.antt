use Rattle.std.proofs.Common.{sym, subst}
use Rattle.domain.specs.Maps.{Smallest}
use Rattle.plane.specs.Boxes.{plane}
use Rattle.plane.specs.Promises.{HeldByEither}
use Rattle.plane.proofs.Promised.{smallest}
use Rattle.plane.proofs.plane_box.piece.PlaneBoxDomain.span.Goals as goal

pub returns : goal.returns
returns c =
    let x = c.args.self.now in
    let v = c.takes.ensures.0 c.if-not-takes.false in
    let w = c.takes-else-not-takes.ensures.0 c.if-not-takes-2.false in
    let e = c.enclosing.ensures x in
    record {
      value = ((v, w), e);
      smallest = ((v, w), subst (Smallest plane x (HeldByEither c.args.one c.args.other)) (sym e) (smallest x c.args.one c.args.other v w));
    }
