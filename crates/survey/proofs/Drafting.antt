-- Readings entered one after another.
use Rattle.std.proofs.Common.{◌≡◌, ℕ, ◌+◌, ◌<◌, ◌≤◌, List, [], ◌∷◌, ◌++◌, length, get_or, take, sym, ap, ◌∙◌, inl, inr, Ok, Err, Result, arith}
use Rattle.std.proofs.lemmas.List.{length-take, length-drop, length_push, take_more, take_all}
use Rattle.domain.specs.declared.refusal.Refusal.{Refusal}
use Rattle.panels.specs.Drafts.{Entered, Taken, NotTaken}

-- the first n of the readings are entered, into memory of sixteen places
pub record Entering {R : Type 0} (rs : List R) (n : ℕ) (memory : List R) (len : ℕ) : Type 0 where
  pub places : length memory ≡ 16
  pub few : length rs ≤ 16
  pub count : len ≡ n
  pub front : take len memory ≡ take n rs

module _ {R : Type 0} {rs memory after : List R} {n len m : ℕ} (w : Entering rs n memory len) (h : n < length rs) where
  pub entering_more : (x : R) → x ≡ get_or rs n x → Taken memory len x after m → Entering rs (n + 1) after m
  entering_more x e t =
      let pushed = length_push (take len memory) x in
      let before = length-take len memory in
      record {
        places = omega (arith, w.places, w.few, w.count, t.count, t.space, pushed, before, length-take m after, ap length t.next, length-drop m after, length-drop m memory, ap length t.rest);
        few = w.few;
        count = omega (arith, t.count, w.count);
        front = t.next ∙ ap (λ ys. ys ++ x ∷ []) w.front ∙ ap (λ y. take n rs ++ y ∷ []) e ∙ sym (take_more rs n x h);
      }

  -- there is always a place
  pub never_full : (e : Refusal) → NotTaken memory len e after m → ⊥
  never_full e t =
      elim t.full [ inl p ↦ omega (arith, p.0, w.few, w.count) | inr p ↦ omega (arith, p.0, p.1, w.places) ]

  -- so the reading is entered
  pub entering_on : {X : Type 0} (r : Result X Refusal) (x : R) → x ≡ get_or rs n x → Entered memory len x r after m → Entering rs (n + 1) after m
  entering_on (Ok _) x e t = entering_more x e t
  entering_on (Err f) x e t = absurd (never_full f t)

pub entering_begun : {R : Type 0} (rs memory : List R) (len : ℕ) → length memory ≡ 16 → length rs ≤ 16 → len ≡ 0 → Entering rs 0 memory len
entering_begun rs memory len places few e = record { places = places; few = few; count = e; front = ap (λ k. take k memory) e }

pub entering_done : {R : Type 0} (rs memory : List R) (n len : ℕ) → Entering rs n memory len → length rs ≤ n → take len memory ≡ rs
entering_done rs memory n len w h = w.front ∙ take_all n rs h
