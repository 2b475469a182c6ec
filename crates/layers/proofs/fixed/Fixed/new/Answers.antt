use Rattle.contractor.specs.Means.{means}
use Rattle.layers.proofs.Worth.{settles}
use Rattle.layers.proofs.fixed.Fixed.new.Goals as goal

pub returns-clause-settles : goal.returns-clause-settles
returns-clause-settles g c =
    settles g.A.Piece.Domain.maps g.met.A.Piece.Domain.lawful (means g.A.Contractor c.args.inner) (g.met.A.Contractor.sound c.args.inner)
