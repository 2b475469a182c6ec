-- What layers over a reading list mean, and what that is worth to a listing.
use Rattle.std.proofs.Common.{◌≡◌, ℕ, List, map, IfOk, Result, ap, ◌∙◌, subst}
use Rattle.domain.specs.Maps.{Maps}
use Rattle.contractor.specs.Layers.{relaxed, fixed}
use Rattle.contractor.specs.Meaning.{Meaning}
use Rattle.listing.specs.Listings.{Listing}
use Rattle.paving.specs.Sheet.{task}

module _ {P R : Type 0} (d : Maps P) (each : R → Meaning P) where
  -- the listing that Fixed over what means this gives
  pub listing_of : {X E : Type 0} (a : Meaning P) (q : ℕ) (rs zs : List R) → a ≡ relaxed d q (map each rs) → rs ≡ zs → (start : P) (grain : ℕ) (shown : P → List ℕ) (text : X → List ℕ) (r : Result X E) → IfOk r (λ x. Listing (task d (fixed d a) start grain) (fixed d a).set shown (text x)) → IfOk r (λ x. Listing (task d (fixed d (relaxed d q (map each zs))) start grain) (fixed d (relaxed d q (map each zs))).set shown (text x))
  listing_of a q rs zs e f start grain shown text r h =
      subst (λ (m : Meaning P). IfOk r (λ x. Listing (task d (fixed d m) start grain) (fixed d m).set shown (text x))) (e ∙ ap (λ ys. relaxed d q (map each ys)) f) h
