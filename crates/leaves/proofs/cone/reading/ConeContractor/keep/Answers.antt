use Rattle.std.proofs.Common.{ap, ap₂, ◌∙◌}
use Rattle.leaves.specs.Judged.{judged}
use Rattle.leaves.specs.Cones.{keeps}
use Rattle.leaves.proofs.cone.reading.ConeContractor.keep.Goals as goal

pub returns : goal.returns
returns c =
    let k = c.args.self.now in
    let t = c.turned.result in
    let e = c.turned.ensures in
    let rows =
    ap₂ (λ m n. keeps m n t.v.y t.v.x t.beacon.x t.beacon.y) e.ux_is e.uy_is
    ∙ ap₂ (λ m n. keeps k.v.y k.v.x m n t.beacon.x t.beacon.y) e.vy_is e.vx_is
    ∙ ap₂ (λ m n. keeps k.v.y k.v.x k.u.x k.u.y m n) e.bx_is e.by_is in
    c.judged.ensures (λ q. keeps q.u.x q.u.y q.v.y q.v.x q.beacon.x q.beacon.y) (λ q s u o p. p.2)
    ∙ ap (λ g. judged (keeps k.u.x k.u.y k.v.y k.v.x k.beacon.x k.beacon.y) g c.args.piece.now) rows
