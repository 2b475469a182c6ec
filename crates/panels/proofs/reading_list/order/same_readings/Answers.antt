use Rattle.contractor.specs.Means.{means}
use Rattle.panels.proofs.Ordering.{readings_same}
use Rattle.panels.proofs.reading_list.order.same_readings.Goals as goal

pub returns : goal.returns
returns g c =
    readings_same g.R.Piece.Domain.maps g.met.R.Piece.Domain.lawful (means g.R.Contractor) g.met.R.Contractor.sound _ _
