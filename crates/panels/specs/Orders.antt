-- The same readings in another order.
use Rattle.std.specs.Prelude.{ℕ, ◌<◌, List, length}
use Rattle.domain.specs.Maps.{Maps}
use Rattle.contractor.specs.Layers.{relaxed, fixed}
use Rattle.contractor.specs.Meaning.{Meaning}
use Rattle.contractor.specs.Rearranged.{Alike, Rearranged, Paired}

-- Two panels are rearranged: their members pair off, and so Relaxed over them, and Fixed over that, have the same maps.
pub record SameMaps {P : Type 0} (d : Maps P) (ms ns : List (Meaning P)) : Type 0 where
  pub members : Paired d ms ns
  pub relaxed_rearranged : (q : ℕ) → q < length ms → Rearranged d (relaxed d q ms) (relaxed d q ns)
  pub fixed_rearranged : (q : ℕ) → q < length ms → Rearranged d (fixed d (relaxed d q ms)) (fixed d (relaxed d q ns))
  pub relaxed_alike : (q : ℕ) → q < length ms → Alike (relaxed d q ms) (relaxed d q ns)
  pub fixed_alike : (q : ℕ) → q < length ms → Alike (fixed d (relaxed d q ms)) (fixed d (relaxed d q ns))
