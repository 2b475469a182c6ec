use Rattle.std.proofs.Common.{ℕ, leb, ◌∙◌, ap₂, arith}
use Rattle.edges.specs.Rails.{of_points}
use Rattle.edges.proofs.Gathers.{gathered}
use Rattle.edges.proofs.rails.RailDomain.gather.Goals as goal

pub returns : goal.returns
returns c =
    gathered c.args.self.now c.args.members.now c.args.depth c.of_points.result (omega arith)
    (c.has_members.ensures.0 c.if-not-has_members.false)
    (c.of_points.ensures ∙ ap₂ (λ (i j : ℕ). of_points (leb c.args.depth i) (leb c.args.depth j)) c.depth_at.ensures c.depth_at-2.ensures)
