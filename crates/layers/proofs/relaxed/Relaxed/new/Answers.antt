use Rattle.layers.proofs.Worth.{extremes}
use Rattle.layers.proofs.relaxed.Relaxed.new.Goals as goal

pub returns-then-liars-count-clause-extremes : goal.returns-then-liars-count-clause-extremes
returns-then-liars-count-clause-extremes g c =
    extremes g.P.Piece.Domain.maps g.met.P.Piece.Domain.lawful (g.P.Panel.members c.args.panel)

pub returns-clause-extremes : goal.returns-clause-extremes
returns-clause-extremes g c =
    extremes g.P.Piece.Domain.maps g.met.P.Piece.Domain.lawful (g.P.Panel.members c.args.panel)
