-- What makes the layers worth having.
use Rattle.std.proofs.Common.{◌≡◌, ℕ, ◌+◌, ◌-◌, ◌<◌, ◌≤◌, Bool, true, cond, List, [], ◌∷◌, map, length, Decides, count_by, refl, ap, inl, inr, arith}
use Rattle.std.specs.List.{AllByRecursion}
use Rattle.std.specs.List.Sorted.{IsPermutation}
use Rattle.std.proofs.ByRecursion.{All-map, all_shuffled}
use Rattle.std.proofs.lemmas.List.{length-map}
use Rattle.std.proofs.lemmas.List.Sums.{sum_by-cons, count_by-le-length}
use Rattle.std.proofs.lemmas.Bool.{cases_Bool, leb-true, le-leb}
use Rattle.domain.specs.Laws.{Laws}
use Rattle.domain.specs.Maps.{Maps}
use Rattle.contractor.specs.Layers.{holders, relaxed, fixed}
use Rattle.contractor.specs.Meaning.{Meaning, Sound}
use Rattle.contractor.specs.Rearranged.{Rearranged}
use Rattle.contractor.specs.Rearranged.Rearranged.{fixed_of, relaxed_of}
use Rattle.contractor.specs.Theorems.{Any, LayerFacts}
use Rattle.contractor.proofs.Fixing.{fixed_keep, fixed_shed}
use Rattle.contractor.proofs.Laws.{all_shuffled_paired}
use Rattle.contractor.proofs.Reordering.{shuffled_paired}

module _ {X : Type 0} (p : X → Bool) where
  counted : (x : X) (xs : List X) → count_by p (x ∷ xs) ≡ cond (p x) 1 0 + count_by p xs
  counted = sum_by-cons (λ y. cond (p y) 1 0)

  -- all are counted where they are as many as there are
  all_counted : (xs : List X) → length xs ≤ count_by p xs → AllByRecursion (λ x. p x ≡ true) xs
  all_counted [] h = tt
  all_counted (x ∷ xs) h =
      let more = count_by-le-length p xs in
      elim (cases_Bool (p x)) [
        | inl e ↦ (e, all_counted xs (omega (arith, counted x xs, ap {B = ℕ} (λ b. cond b 1 0) e)))
        | inr e ↦ absurd (omega (arith, more, counted x xs, ap {B = ℕ} (λ b. cond b 1 0) e))
      ]

  counted_all : (xs : List X) → AllByRecursion (λ x. p x ≡ true) xs → length xs ≤ count_by p xs
  counted_all [] a = omega arith
  counted_all (x ∷ xs) a = omega (arith, counted x xs, ap {B = ℕ} (λ b. cond b 1 0) a.0, counted_all xs a.1)

  -- one is counted where there is one
  any_counted : (xs : List X) → 0 < count_by p xs → Any (λ x. p x ≡ true) xs
  any_counted [] h = absurd (omega arith)
  any_counted (x ∷ xs) h =
      elim (cases_Bool (p x)) [
        | inl e ↦ inl e
        | inr e ↦ inr (any_counted xs (omega (arith, counted x xs, ap {B = ℕ} (λ b. cond b 1 0) e)))
      ]

  counted_any : (xs : List X) → Any (λ x. p x ≡ true) xs → 0 < count_by p xs
  counted_any [] a = absurd a
  counted_any (x ∷ xs) (inl e) = omega (arith, counted x xs, ap {B = ℕ} (λ b. cond b 1 0) e)
  counted_any (x ∷ xs) (inr a) = omega (arith, counted x xs, counted_any xs a)

module _ {P : Type 0} (d : Maps P) (l : Laws d) where
  relaxed_all : (ms : List (Meaning P)) (n : ℕ) → Decides ((relaxed d 0 ms).set n) (AllByRecursion (λ m. m.set n ≡ true) ms)
  relaxed_all ms n = (
    (λ e. all_counted (λ m. m.set n) ms (omega (arith, leb-true (length ms - 0) (holders n ms) e))),
    (λ a. le-leb (length ms - 0) (holders n ms) (omega (arith, counted_all (λ m. m.set n) ms a))),
  )

  relaxed_any : (ms : List (Meaning P)) (n : ℕ) → 0 < length ms → Decides ((relaxed d (length ms - 1) ms).set n) (Any (λ m. m.set n ≡ true) ms)
  relaxed_any ms n h = (
    (λ e. any_counted (λ m. m.set n) ms (omega (arith, leb-true (length ms - (length ms - 1)) (holders n ms) e))),
    (λ a. le-leb (length ms - (length ms - 1)) (holders n ms) (omega (arith, counted_any (λ m. m.set n) ms a))),
  )

  pub layer_facts : LayerFacts d
  layer_facts =
      record {
        relaxed_all = relaxed_all;
        relaxed_any = relaxed_any;
        relaxed_order = λ q ms ns few all h. relaxed_of few all (all_shuffled (Sound d) ms ns h all) (all_shuffled_paired d l ms ns h);
        not_twice = λ a. record { keep = λ x. refl; shed = λ x. refl };
        keep_alike = λ a s x. (fixed_keep d l a s x).alike;
        shed_alike = λ a s x. (fixed_shed d l a s x).alike;
      }

-- Fixed over Relaxed over the same readings in another order
pub readings_order : {P R : Type 0} (d : Maps P) (means : R → Meaning P) (q : ℕ) (rs qs : List R) → q < length rs → AllByRecursion (λ r. Sound d (means r)) rs → IsPermutation rs qs → Rearranged d (fixed d (relaxed d q (map means rs))) (fixed d (relaxed d q (map means qs)))
readings_order d means q rs qs few all h =
    fixed_of
    (relaxed_of (let f : q < length (map means rs) = omega (arith, length-map rs means) in f) (All-map (Sound d) means rs all)
    (All-map (Sound d) means qs (all_shuffled (λ r. Sound d (means r)) rs qs h all))
    (shuffled_paired d means rs qs h))
