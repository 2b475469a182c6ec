use Rattle.std.proofs.Common.{min, max, sym, ◌∙◌, ap₂, arith}
use Rattle.plane.specs.Boxes.{span}
use Rattle.plane.specs.Made.{box_by}
use Rattle.plane.proofs.plane_box.PlaneBox.enclosing.Goals as goal

pub returns-in-Some-Some : goal.returns-in-Some-Some
returns-in-Some-Some c x =
    let p = c.in-Some-Some.first in
    let q = c.in-Some-Some.second in
    sym (ap₂ (span x) c.in-Some-Some.is-0 c.in-Some-Some.is-1
    ∙ box_by c.hull.result (min p.columns.low q.columns.low) (min p.rows.low q.rows.low) (max p.columns.high q.columns.high) (max p.rows.high q.rows.high) (omega arith, omega arith, omega arith, omega arith))
