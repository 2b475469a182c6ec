-- The laws of layers and of rearranged contractors, gathered.
use Rattle.std.proofs.Common.{subst₂}
use Rattle.std.proofs.lemmas.List.{map-id}
use Rattle.domain.specs.Laws.{Laws}
use Rattle.domain.specs.Maps.{Maps}
use Rattle.contractor.specs.Rearranged.{Paired}
use Rattle.contractor.specs.Theorems.{LayersSound, FixedSettles, RearrangedAlike, ShuffledPaired}
use Rattle.contractor.proofs.Fixing.{fixed_sound, fixed_keep, fixed_shed, settles_once}
use Rattle.contractor.proofs.Joining.{both_sound, either_sound, not_sound}
use Rattle.contractor.proofs.Rearranging.{rearranged_alike}
use Rattle.contractor.proofs.Reordering.{shuffled_paired}
use Rattle.contractor.proofs.Relaxing.{relaxed_sound}

module _ {P : Type 0} (d : Maps P) (l : Laws d) where
  pub layers_sound : LayersSound d
  layers_sound =
      record {
        both_is = both_sound d l;
        either_is = either_sound d l;
        not_is = not_sound d;
        relaxed_is = relaxed_sound d l;
        fixed_is = fixed_sound d l;
      }

  pub fixed_settles : FixedSettles d
  fixed_settles = record { keep_settles = fixed_keep d l; shed_settles = fixed_shed d l; once = settles_once }

  pub all_rearranged_alike : RearrangedAlike d
  all_rearranged_alike a b r = rearranged_alike d l r

  pub all_shuffled_paired : ShuffledPaired d
  all_shuffled_paired ms ns h = subst₂ (Paired d) (map-id ms) (map-id ns) (shuffled_paired d (λ m. m) ms ns h)
