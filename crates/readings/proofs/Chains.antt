-- One line, and then the rest.
use Rattle.std.proofs.Common.{◌≡◌, ℕ, Bool, List, Ok, Err, Result, MatchResult, sym, refl, subst, inl, inr}
use Rattle.domain.specs.Refusals.{code}
use Rattle.domain.specs.declared.refusal.Refusal.{Refusal}
use Rattle.readings.specs.Lines.{Begins, Then, numbered}
use Rattle.readings.specs.Requests.{fault_of}
use Rattle.readings.specs.declared.fault.Fault.{Fault}

-- what a fault is told of
pub fault_is : {X : Type 0} (k : ℕ) (r : Result X Refusal) (f : Fault) → MatchResult r (λ x. ◌≡◌ {A = Result X Fault} (Err f) (Ok x)) (λ e. ◌≡◌ {A = Result X Fault} (Err f) (Err (record { refusal = e; line = k }))) → (e : Refusal) × (r ≡ Err e) × (f ≡ record { refusal = e; line = k })
fault_is k (Ok x) f h = cc
fault_is k (Err e) f h = (e, refl, (let q : f ≡ record { refusal = e; line = k } = cc in q))

-- a line that is faultless
pub faultless : {X : Type 0} (P : Result X ℕ → Type 0) (k : ℕ) (r : Result X Refusal) (x : X) → P (numbered r) → MatchResult r (λ y. ◌≡◌ {A = Result X Fault} (Ok x) (Ok y)) (λ e. ◌≡◌ {A = Result X Fault} (Ok x) (Err (record { refusal = e; line = k }))) → P (Ok x)
faultless P k (Ok y) x p h = let q : y ≡ x = cc in subst (λ z. P (Ok z)) q p
faultless P k (Err e) x p h = cc

module _ {X Y : Type 0} (J : List ℕ → Bool → Result X ℕ → Type 0) (k : ℕ) (K : X → List ℕ → Result Y (ℕ × ℕ) → Type 0) where
  pub stopped : (rest text : List ℕ) (ended : Bool) (after : List ℕ) (e : ℕ) → Begins rest text ended after → J text ended (Err e) → Then J k K rest (Err (e, k))
  stopped rest text ended after e b j = record { text = text; ended = ended; after = after; begins = b; comes = inl (e, j, refl) }

  pub passed : (rest text : List ℕ) (ended : Bool) (after : List ℕ) (x : X) (r : Result Y (ℕ × ℕ)) → Begins rest text ended after → J text ended (Ok x) → K x after r → Then J k K rest r
  passed rest text ended after x r b j h = record { text = text; ended = ended; after = after; begins = b; comes = inr (x, j, h) }

  -- a line that is judged, and a fault told of it
  pub stopped_at : (rest text : List ℕ) (ended : Bool) (after : List ℕ) (r : Result X Refusal) (f : Fault) → Begins rest text ended after → J text ended (numbered r) → MatchResult r (λ x. ◌≡◌ {A = Result X Fault} (Err f) (Ok x)) (λ e. ◌≡◌ {A = Result X Fault} (Err f) (Err (record { refusal = e; line = k }))) → Then J k K rest (Err (fault_of f))
  stopped_at rest text ended after r f b j h =
      let q = fault_is k r f h in
      subst (λ (f : Fault). Then J k K rest (Err (fault_of f))) (sym q.2) (stopped rest text ended after (code q.0) b (subst (λ (r : Result X Refusal). J text ended (numbered r)) q.1 j))

  -- a line that is judged and faultless, and what all comes to by the rest
  pub passed_at : (rest text : List ℕ) (ended : Bool) (after : List ℕ) (r : Result X Refusal) (x : X) (s : Result Y (ℕ × ℕ)) → Begins rest text ended after → J text ended (numbered r) → MatchResult r (λ y. ◌≡◌ {A = Result X Fault} (Ok x) (Ok y)) (λ e. ◌≡◌ {A = Result X Fault} (Ok x) (Err (record { refusal = e; line = k }))) → K x after s → Then J k K rest s
  passed_at rest text ended after r x s b j h t = passed rest text ended after x s b (faultless (J text ended) k r x j h) t
