use Rattle.std.proofs.Common.{ap, ap₂, ◌∙◌}
use Rattle.leaves.specs.Judged.{judged}
use Rattle.leaves.specs.Rings.{sheds}
use Rattle.leaves.proofs.ring.reading.RingContractor.shed.Goals as goal

pub returns : goal.returns
returns c =
    let r = c.args.self.now in
    let t = c.turned.result in
    let rows =
    ap₂ (λ a b. sheds a b t.beacon.x t.beacon.y) c.turned.ensures.radii.0 c.turned.ensures.radii.1
    ∙ ap₂ (λ x y. sheds r.inner r.outer x y) c.turned.ensures.beacon.0 c.turned.ensures.beacon.1 in
    c.judged.ensures (λ q. sheds q.inner q.outer q.beacon.x q.beacon.y) (λ q s u o p. p.2)
    ∙ ap (λ g. judged (sheds r.inner r.outer r.beacon.x r.beacon.y) g c.args.piece.now) rows
