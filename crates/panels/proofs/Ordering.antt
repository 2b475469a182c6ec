-- The same readings in another order are rearranged panels.
use Rattle.std.proofs.Common.{ℕ, ◌<◌, List, map, length}
use Rattle.std.specs.List.{AllByRecursion}
use Rattle.std.specs.List.Sorted.{IsPermutation}
use Rattle.domain.specs.Laws.{Laws}
use Rattle.domain.specs.Maps.{Maps}
use Rattle.contractor.specs.Layers.{relaxed}
use Rattle.contractor.specs.Meaning.{Meaning, Sound}
use Rattle.contractor.specs.Rearranged.{Rearranged, Paired}
use Rattle.contractor.specs.Rearranged.Rearranged.{relaxed_of, fixed_of}
use Rattle.contractor.proofs.Rearranging.{rearranged_alike}
use Rattle.contractor.proofs.Reordering.{shuffled_paired}
use Rattle.panels.specs.Orders.{SameMaps}
use Rattle.panels.specs.Readings.{all_readings}

module _ {P : Type 0} (d : Maps P) (l : Laws d) (ms ns : List (Meaning P)) (all : AllByRecursion (Sound d) ms) (more : AllByRecursion (Sound d) ns) (pairs : Paired d ms ns) where
  rearranged : (q : ℕ) → q < length ms → Rearranged d (relaxed d q ms) (relaxed d q ns)
  rearranged q few = relaxed_of few all more pairs

  pub same_maps : SameMaps d ms ns
  same_maps =
      record {
        members = pairs;
        relaxed_rearranged = rearranged;
        fixed_rearranged = λ q few. fixed_of (rearranged q few);
        relaxed_alike = λ q few. rearranged_alike d l (rearranged q few);
        fixed_alike = λ q few. rearranged_alike d l (fixed_of (rearranged q few));
      }

pub readings_same : {P R : Type 0} (d : Maps P) → Laws d → (each : R → Meaning P) → ((r : R) → Sound d (each r)) → (rs qs : List R) → IsPermutation rs qs → SameMaps d (map each rs) (map each qs)
readings_same d l each sound rs qs h =
    same_maps d l (map each rs) (map each qs) (all_readings (Sound d) each sound rs) (all_readings (Sound d) each sound qs)
    (shuffled_paired d each rs qs h)
