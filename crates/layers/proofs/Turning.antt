-- Turn by turn to what Fixed gives.
use Rattle.std.proofs.Common.{◌≡◌, ℕ, suc, ◌-◌, ◌<◌, ◌≤◌, true, Some, None, Option, sym, ap, ◌∙◌, arith}
use Rattle.std.proofs.lemmas.Bool.{eq-eqb, ne_eqb}
use Rattle.domain.specs.Laws.{Laws}
use Rattle.domain.specs.Maps.{Maps}
use Rattle.domain.proofs.Totals.{count_within}
use Rattle.contractor.specs.Layers.{settled}

-- what is left to settle of x is to settle `rest`, in some number of turns that is enough
pub record Turned {P : Type 0} (d : Maps P) (f : P → Option P) (x rest : P) : Type 0 where
  pub more : ℕ
  pub enough : d.count rest ≤ suc more
  pub alike : settled d f (suc more) rest ≡ settled d f (d.count x) x

-- the same of every map that the calls give
abbrev pub Turns : {P : Type 0} → Maps P → (P → Option P → Type 0) → P → P → Type 0
Turns {P} d calls x rest = (f : P → Option P) → ((y : P) (r : Option P) → calls y r → r ≡ f y) → Turned d f x rest

module _ {P : Type 0} (d : Maps P) (l : Laws d) where
  -- what leaves another number of points leaves fewer
  pub fewer : (next r : P) → d.within next r ≡ true → (d.count next ≡ d.count r → ⊥) → d.count next < d.count r
  fewer next r w n = omega (arith, count_within d l next r w)

  module _ (f : P → Option P) (x : P) where
    pub turned_none : Turned d f x x
    turned_none =
        let all : suc (d.count x - 1) ≡ d.count x = omega (arith, l.some x) in
        record { more = d.count x - 1; enough = omega arith; alike = ap (λ (k : ℕ). settled d f k x) all }

    module _ (r : P) (t : Turned d f x r) where
      pub turned_more : (next : P) → d.within next r ≡ true → Some next ≡ f r → (d.count next ≡ d.count r → ⊥) → Turned d f x next
      turned_more next w e n =
          let less = fewer next r w n in
          let one : suc (t.more - 1) ≡ t.more = omega (arith, less, t.enough, l.some next) in
          let moved : settled d f (suc t.more) r ≡ settled d f t.more next = let q = ne_eqb (d.count next) (d.count r) n in cc in
          record {
            more = t.more - 1;
            enough = omega (arith, less, t.enough);
            alike = ap (λ (k : ℕ). settled d f k next) one ∙ sym moved ∙ t.alike;
          }

      pub turned_alike : (next : P) → Some next ≡ f r → d.count next ≡ d.count r → Some r ≡ settled d f (d.count x) x
      turned_alike next e n =
          let stays : Some r ≡ settled d f (suc t.more) r = let q = eq-eqb (d.count next) (d.count r) n in cc in stays ∙ t.alike

      pub turned_nothing : None ≡ f r → None ≡ settled d f (d.count x) x
      turned_nothing e = let ends : None ≡ settled d f (suc t.more) r = cc in ends ∙ t.alike
