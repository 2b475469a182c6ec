-- What the contractors of a type mean, from the trait's ghost members.
use Rattle.contractor.specs.Meaning.{Meaning, meaning}
use Rattle.contractor.specs.declared.contractor.Contractor.{Ghosts}

abbrev pub means : {C P : Type 0} → Ghosts C P → C → Meaning P
means g c = meaning (g.set c) (g.kept c) (g.dropped c)
