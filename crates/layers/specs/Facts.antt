-- What makes the layers worth having.
use Rattle.std.specs.Prelude.{◌≡◌, ℕ, ◌-◌, ◌<◌, true, List, length, Decides}
use Rattle.std.specs.List.{AllByRecursion}
use Rattle.domain.specs.Maps.{Maps}
use Rattle.contractor.specs.Layers.{after, Settles, relaxed, fixed}
use Rattle.contractor.specs.Meaning.{Meaning}
use Rattle.contractor.specs.Theorems.{Any}

-- Fixed gives the first that the next call leaves alike, so that another call leaves its answers alike.
pub record Settled {P : Type 0} (d : Maps P) (m : Meaning P) : Type 0 where
  pub keep_first : (x : P) → Settles m.keep x ((fixed d m).keep x)
  pub shed_first : (x : P) → Settles m.shed x ((fixed d m).shed x)
  pub keep_alike : (x : P) → after m.keep ((fixed d m).keep x) ≡ (fixed d m).keep x
  pub shed_alike : (x : P) → after m.shed ((fixed d m).shed x) ≡ (fixed d m).shed x

-- With no liar, the points that all members hold; with all but one, those that some member holds.
pub record Extremes {P : Type 0} (d : Maps P) (ms : List (Meaning P)) : Type 0 where
  pub intersection : (n : ℕ) → Decides ((relaxed d 0 ms).set n) (AllByRecursion (λ m. m.set n ≡ true) ms)
  pub union : (n : ℕ) → 0 < length ms → Decides ((relaxed d (length ms - 1) ms).set n) (Any (λ m. m.set n ≡ true) ms)
