-- The members of a panel asked by their numbers, each about one piece.
use Rattle.std.proofs.Common.{◌≡◌, ℕ, zero, suc, ◌<◌, List, [], ◌∷◌, map, length, Ok, Err, Option, Result, MatchResult, sym, subst, arith}
use Rattle.std.specs.List.{HoldsAt, AllByRecursion}
use Rattle.std.proofs.lemmas.List.{length-map}
use Rattle.domain.specs.Maps.{Maps, Fits}
use Rattle.domain.specs.Refusals.{Given}
use Rattle.domain.specs.declared.refusal.Refusal.{Refusal}
use Rattle.contractor.specs.Meaning.{Meaning, Sound}
use Rattle.layers.specs.Answers.{Answered, Told}

module _ {P : Type 0} (side : Meaning P → Option P) where
  -- what a sound member answers fits
  fits_at : (d : Maps P) (x : P) → ((m : Meaning P) → Sound d m → Fits d x (side m)) → (ms : List (Meaning P)) → AllByRecursion (Sound d) ms → (k : ℕ) (o : Option P) → k < length ms → HoldsAt (λ m. o ≡ side m) ms k → Fits d x o
  fits_at d x fit [] all k o h a = absurd (omega arith)
  fits_at d x fit (m ∷ ms) all zero o h a = subst (Fits d x) (sym (a m)) (fit m all.0)
  fits_at d x fit (m ∷ ms) all (suc k) o h a = fits_at d x fit ms all.1 k o (omega arith) a

  told_at : (ms : List (Meaning P)) (k : ℕ) (o : Option P) → k < length ms → HoldsAt (λ m. o ≡ side m) ms k → HoldsAt (λ a. o ≡ a) (map side ms) k
  told_at [] k o h a = absurd (omega arith)
  told_at (m ∷ ms) zero o h a = λ b. a m
  told_at (m ∷ ms) (suc k) o h a = told_at ms k o (omega arith) a

-- each call gives what the member of that number answers, and no member's is refused
module _ {P : Type 0} (side : Meaning P → Option P) (ms : List (Meaning P)) (calls : ℕ → Result (Option P) Refusal → Type 0) (each : (k : ℕ) (r : Result (Option P) Refusal) → calls k r → Given r 9 (k < length ms) (λ o. HoldsAt (λ m. o ≡ side m) ms k)) where
  answered : (V : ℕ → Option P → Type 0) → ((k : ℕ) (o : Option P) → k < length ms → HoldsAt (λ m. o ≡ side m) ms k → V k o) → Answered calls (length ms) V
  answered V v k r h c = go r (each k r c)
    where
      go : (s : Result (Option P) Refusal) → Given s 9 (k < length ms) (λ o. HoldsAt (λ m. o ≡ side m) ms k) → MatchResult s (V k) (λ e. ⊥)
      go (Ok o) g = v k o h g.1
      go (Err e) g = g.0 h

  pub answers_fit : (d : Maps P) (x : P) → ((m : Meaning P) → Sound d m → Fits d x (side m)) → AllByRecursion (Sound d) ms → Answered calls (length ms) (λ k o. Fits d x o)
  answers_fit d x fit all = answered (λ k o. Fits d x o) (fits_at side d x fit ms all)

  pub answers_told : Told calls (length ms) (map side ms)
  answers_told = (length-map ms side, answered (λ k o. HoldsAt (λ a. o ≡ a) (map side ms) k) (told_at side ms))
