-- Fixed: its turns come to an end, at the one value that its rule names, and it keeps the laws.
use Rattle.std.proofs.Common.{◌≡◌, ℕ, zero, suc, ◌<◌, ◌≤◌, Bool, true, false, eqb, Some, None, Option, sym, refl, ap, ◌∙◌, subst, inl, inr, arith}
use Rattle.std.proofs.lemmas.Bool.{cases_order, eqb-true, eqb-false}
use Rattle.domain.specs.Laws.{Laws}
use Rattle.domain.specs.Maps.{Maps, Fits, Holds}
use Rattle.contractor.specs.Layers.{after, turned, Settles, settled, fixed}
use Rattle.contractor.specs.Meaning.{Meaning, Sound}
use Rattle.domain.proofs.Totals.{count_within}
use Rattle.contractor.proofs.Pieces.{fits_up}

-- an answer is not nothing and a piece at once
some_none : {P : Type 0} (o : Option P) (p : P) → o ≡ None → o ≡ Some p → ⊥
some_none o p e f = let z : ◌≡◌ {A = ℕ} 0 1 = cc in omega arith

some_same : {P : Type 0} (o : Option P) (p q : P) → o ≡ Some p → o ≡ Some q → p ≡ q
some_same o p q e f = cc

module _ {P : Type 0} (f : P → Option P) (x : P) where
  -- the first that is left alike is one
  pub settles_once : (r s : Option P) → Settles f x r → Settles f x s → r ≡ s
  settles_once r s a b =
      elim (cases_order a.turns b.turns) [
        | inl e ↦ sym a.reached ∙ ap (λ (k : ℕ). turned f k (Some x)) e ∙ b.reached
        | inr c ↦ elim c [
          | inl h ↦ absurd (b.first a.turns h (ap (after f) a.reached ∙ a.alike ∙ sym a.reached))
          | inr h ↦ absurd (a.first b.turns h (ap (after f) b.reached ∙ b.alike ∙ sym b.reached))
        ]
      ]

  settles_none : f x ≡ None → Settles f x None
  settles_none e = record { turns = 1; reached = e; alike = refl; first = first }
    where
      first : (k : ℕ) → k < 1 → after f (turned f k (Some x)) ≡ turned f k (Some x) → ⊥
      first zero h a = some_none (f x) x e a
      first (suc k) h a = absurd (omega arith)

  settles_here : f x ≡ Some x → Settles f x (Some x)
  settles_here e = record { turns = 0; reached = refl; alike = e; first = λ k h a. absurd (omega arith) }

  settles_on : (y : P) (r : Option P) → f x ≡ Some y → (y ≡ x → ⊥) → Settles f y r → Settles f x r
  settles_on y r e ne s =
      record {
        turns = suc s.turns;
        reached = ap (turned f s.turns) e ∙ s.reached;
        alike = s.alike;
        first = first;
      }
    where
      first : (k : ℕ) → k < suc s.turns → after f (turned f k (Some x)) ≡ turned f k (Some x) → ⊥
      first zero h a = ne (some_same (f x) y x e a)
      first (suc k) h a = s.first k (omega arith) (subst (λ o. after f (turned f k o) ≡ turned f k o) e a)

module _ {P : Type 0} (d : Maps P) (l : Laws d) (f : P → Option P) (fits : (x : P) → Fits d x (f x)) where
  -- one turn: the answer is nothing, or x again, or has fewer points
  settled_turn : (k : ℕ) (x : P) (o : Option P) → f x ≡ o → Fits d x o → d.count x ≤ suc k → ((y : P) → d.count y ≤ k → Settles f y (settled d f k y)) → Settles f x (elim o [ None ↦ None | Some y ↦ elim (eqb (d.count y) (d.count x)) [ true ↦ Some x | false ↦ settled d f k y ] ])
  settled_turn k x None e w c rest = settles_none f x e
  settled_turn k x (Some y) e w c rest = go (eqb (d.count y) (d.count x)) refl
    where
      go : (b : Bool) → eqb (d.count y) (d.count x) ≡ b → Settles f x (elim b [ true ↦ Some x | false ↦ settled d f k y ])
      go true t = settles_here f x (e ∙ ap Some (l.whole y x w (eqb-true (d.count y) (d.count x) t)))
      go false t =
          let less : d.count y ≡ d.count x → ⊥ = eqb-false (d.count y) (d.count x) t in
          settles_on f x y (settled d f k y) e (λ q. less (ap d.count q)) (rest y (omega (arith, count_within d l y x w)))

  pub settled_settles : (k : ℕ) (x : P) → d.count x ≤ k → Settles f x (settled d f k x)
  settled_settles zero x c = absurd (omega (arith, l.some x))
  settled_settles (suc k) x c = settled_turn k x (f x) refl (fits x) c (settled_settles k)

  settled_fits : (k : ℕ) (x : P) → Fits d x (settled d f k x)
  settled_fits zero x = l.reflexive x
  settled_fits (suc k) x = go (f x) (fits x) (settled_fits k)
    where
      stop : (y : P) (b : Bool) → d.within y x ≡ true → Fits d y (settled d f k y) → Fits d x (elim b [ true ↦ Some x | false ↦ settled d f k y ])
      stop y true w r = l.reflexive x
      stop y false w r = fits_up d l x y (settled d f k y) w r

      go : (o : Option P) → Fits d x o → ((y : P) → Fits d y (settled d f k y)) → Fits d x (elim o [ None ↦ None | Some y ↦ elim (eqb (d.count y) (d.count x)) [ true ↦ Some x | false ↦ settled d f k y ] ])
      go None w rest = tt
      go (Some y) w rest = stop y (eqb (d.count y) (d.count x)) w (rest y)

  settled_holds : (n : ℕ) → ((y : P) → d.holds y n ≡ true → Holds d (f y) n) → (k : ℕ) (x : P) → d.holds x n ≡ true → Holds d (settled d f k x) n
  settled_holds n g zero x h = h
  settled_holds n g (suc k) x h = go (f x) (g x h) (settled_holds n g k)
    where
      stop : (y : P) (b : Bool) → Holds d (settled d f k y) n → Holds d (elim b [ true ↦ Some x | false ↦ settled d f k y ]) n
      stop y true r = h
      stop y false r = r

      go : (o : Option P) → Holds d o n → ((y : P) → d.holds y n ≡ true → Holds d (settled d f k y) n) → Holds d (elim o [ None ↦ None | Some y ↦ elim (eqb (d.count y) (d.count x)) [ true ↦ Some x | false ↦ settled d f k y ] ]) n
      go None w rest = w
      go (Some y) w rest = stop y (eqb (d.count y) (d.count x)) (rest y w)

  settled_one : (x : P) → f x ≡ None → settled d f (d.count x) x ≡ None
  settled_one x e = settles_once f x (settled d f (d.count x) x) None (settled_settles (d.count x) x (omega arith)) (settles_none f x e)

module _ {P : Type 0} (d : Maps P) (l : Laws d) (a : Meaning P) (s : Sound d a) where
  pub fixed_sound : Sound d (fixed d a)
  fixed_sound =
      record {
        keep_fits = λ x. settled_fits d l a.keep s.keep_fits (d.count x) x;
        shed_fits = λ x. settled_fits d l a.shed s.shed_fits (d.count x) x;
        keeps = λ x n h e. settled_holds d l a.keep s.keep_fits n (λ y g. s.keeps y n g e) (d.count x) x h;
        sheds = λ x n h e. settled_holds d l a.shed s.shed_fits n (λ y g. s.sheds y n g e) (d.count x) x h;
        keep_one = λ x n c h e. settled_one d l a.keep s.keep_fits x (s.keep_one x n c h e);
        shed_one = λ x n c h e. settled_one d l a.shed s.shed_fits x (s.shed_one x n c h e);
      }

  -- Fixed gives what its rule names
  pub fixed_keep : (x : P) → Settles a.keep x ((fixed d a).keep x)
  fixed_keep x = settled_settles d l a.keep s.keep_fits (d.count x) x (omega arith)

  pub fixed_shed : (x : P) → Settles a.shed x ((fixed d a).shed x)
  fixed_shed x = settled_settles d l a.shed s.shed_fits (d.count x) x (omega arith)
