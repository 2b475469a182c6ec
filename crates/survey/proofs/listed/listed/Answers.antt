use Rattle.std.proofs.Common.{string_bytes, ◌∙◌}
use Rattle.contractor.specs.Means.{means}
use Rattle.readings.specs.Requests.{entered}
use Rattle.survey.specs.Lists.{readings_of}
use Rattle.survey.proofs.Layering.{listing_of}
use Rattle.survey.proofs.listed.listed.Goals as goal

pub returns : goal.returns
returns g c shown h =
    let d = g.P.Domain.maps in
    let each = means g.R.Contractor in
    let request = c.args.request.now in
    listing_of d each _ request.liars (readings_of c.sealed-readings.result) (entered request.readings)
    c.layered-contractor.ensures (c.sealed-readings.ensures ∙ c.all.ensures.0) request.start request.grain.size shown (λ p. string_bytes p.0) c.list.result (c.list.ensures.value shown h)
