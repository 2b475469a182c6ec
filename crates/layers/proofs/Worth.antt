-- What makes the layers worth having, from the theorems on meanings.
use Rattle.std.proofs.Common.{List}
use Rattle.domain.specs.Laws.{Laws}
use Rattle.domain.specs.Maps.{Maps}
use Rattle.contractor.specs.Meaning.{Meaning, Sound}
use Rattle.contractor.proofs.Facts.{layer_facts}
use Rattle.contractor.proofs.Fixing.{fixed_keep, fixed_shed}
use Rattle.layers.specs.Facts.{Settled, Extremes}

module _ {P : Type 0} (d : Maps P) (l : Laws d) where
  pub settles : (m : Meaning P) → Sound d m → Settled d m
  settles m s =
      record {
        keep_first = fixed_keep d l m s;
        shed_first = fixed_shed d l m s;
        keep_alike = λ x. (fixed_keep d l m s x).alike;
        shed_alike = λ x. (fixed_shed d l m s x).alike;
      }

  pub extremes : (ms : List (Meaning P)) → Extremes d ms
  extremes ms = record { intersection = (layer_facts d l).relaxed_all ms; union = (layer_facts d l).relaxed_any ms }
