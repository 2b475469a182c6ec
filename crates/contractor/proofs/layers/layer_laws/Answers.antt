use Rattle.contractor.proofs.Facts.{layer_facts}
use Rattle.contractor.proofs.Laws.{layers_sound, fixed_settles, all_rearranged_alike, all_shuffled_paired}
use Rattle.contractor.proofs.layers.layer_laws.Goals as goal

pub returns : goal.returns
returns g c =
    let d = g.P.Domain.maps in
    let l = g.met.P.Domain.lawful in
    record { sound = layers_sound d l; settles = fixed_settles d l; alike = all_rearranged_alike d l; paired = all_shuffled_paired d l; facts = layer_facts d l }
