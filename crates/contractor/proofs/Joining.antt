-- Both, Either and Not keep the laws.
use Rattle.std.proofs.Common.{◌≡◌, ℕ, Bool, true, false, not, ◌&&◌, ◌||◌, Some, None, Option, refl, ap, ◌∙◌, subst, ap₂, inl, inr}
use mathlib.Core.Path.{fun_ext}
use Rattle.std.proofs.lemmas.Bool.{and_parts, and_cases, not-true, not-false}
use Rattle.domain.specs.Laws.{Laws}
use Rattle.domain.specs.Maps.{Maps, Fits, Holds}
use Rattle.contractor.specs.Layers.{after, both, either, opposite}
use Rattle.contractor.specs.Meaning.{Meaning, meaning, Sound}
use Rattle.domain.proofs.Totals.{alone}
use Rattle.contractor.proofs.Pieces.{fits_up, span_fits, span_holds_left, span_holds_right}

either_not : (a b : Bool) → not (not a && not b) ≡ (a || b)
either_not true b = refl
either_not false true = refl
either_not false false = refl

module _ {P : Type 0} (d : Maps P) where
  -- the laws speak of a set only through its points
  sound_set : (s t : ℕ → Bool) (k e : P → Option P) → ((n : ℕ) → s n ≡ t n) → Sound d (meaning s k e) → Sound d (meaning t k e)
  sound_set s t k e h = subst (λ u. Sound d (meaning u k e)) (fun_ext h)

  pub not_sound : (a : Meaning P) → Sound d a → Sound d (opposite a)
  not_sound a s =
      record {
        keep_fits = s.shed_fits;
        shed_fits = s.keep_fits;
        keeps = λ x n h e. s.sheds x n h (not-true (a.set n) e);
        sheds = λ x n h e. s.keeps x n h (not-false (a.set n) e);
        keep_one = λ x n c h e. s.shed_one x n c h (not-false (a.set n) e);
        shed_one = λ x n c h e. s.keep_one x n c h (not-true (a.set n) e);
      }

module _ {P : Type 0} (d : Maps P) (l : Laws d) where
  -- a map after an answer
  after_fits : (f : P → Option P) → ((y : P) → Fits d y (f y)) → (x : P) (o : Option P) → Fits d x o → Fits d x (after f o)
  after_fits f g x None h = tt
  after_fits f g x (Some y) h = fits_up d l x y (f y) h (g y)

  after_holds : (f : P → Option P) (n : ℕ) → ((y : P) → d.holds y n ≡ true → Holds d (f y) n) → (o : Option P) → Holds d o n → Holds d (after f o) n
  after_holds f n g None h = absurd h
  after_holds f n g (Some y) h = g y h

  after_one : (f : P → Option P) (x : P) (o : Option P) → Fits d x o → d.count x ≡ 1 → f x ≡ None → after f o ≡ None
  after_one f x None h c e = refl
  after_one f x (Some y) h c e = ap f (alone d l y x h c) ∙ e

  module _ (a b : Meaning P) (s : Sound d a) (t : Sound d b) where
    both_shed : (x : P) (n : ℕ) → d.holds x n ≡ true → (a.set n && b.set n) ≡ false → Holds d (d.span x (a.shed x) (b.shed x)) n
    both_shed x n h e =
        elim (and_cases (a.set n) (b.set n) e) [
          | inl f ↦ span_holds_left d l x (a.shed x) (b.shed x) n (s.shed_fits x) (t.shed_fits x) (s.sheds x n h f)
          | inr f ↦ span_holds_right d l x (a.shed x) (b.shed x) n (s.shed_fits x) (t.shed_fits x) (t.sheds x n h f)
        ]

    both_keep_one : (x : P) (n : ℕ) → d.count x ≡ 1 → d.holds x n ≡ true → (a.set n && b.set n) ≡ false → after b.keep (a.keep x) ≡ None
    both_keep_one x n c h e =
        elim (and_cases (a.set n) (b.set n) e) [
          | inl f ↦ ap (after b.keep) (s.keep_one x n c h f)
          | inr f ↦ after_one b.keep x (a.keep x) (s.keep_fits x) c (t.keep_one x n c h f)
        ]

    pub both_sound : Sound d (both d a b)
    both_sound =
        record {
          keep_fits = λ x. after_fits b.keep t.keep_fits x (a.keep x) (s.keep_fits x);
          shed_fits = λ x. span_fits d l x (a.shed x) (b.shed x) (s.shed_fits x) (t.shed_fits x);
          keeps = λ x n h e. let p = and_parts (a.set n) (b.set n) e in after_holds b.keep n (λ y g. t.keeps y n g p.1) (a.keep x) (s.keeps x n h p.0);
          sheds = both_shed;
          keep_one = both_keep_one;
          shed_one = λ x n c h e. let p = and_parts (a.set n) (b.set n) e in ap₂ (d.span x) (s.shed_one x n c h p.0) (t.shed_one x n c h p.1) ∙ l.span_none x;
        }

  -- Either is Not over Both over two Nots
  pub either_sound : (a b : Meaning P) → Sound d a → Sound d b → Sound d (either d a b)
  either_sound a b s t =
      let m = both d (opposite a) (opposite b) in
      sound_set d (λ n. not (not (a.set n) && not (b.set n))) (λ n. a.set n || b.set n) m.shed m.keep (λ n. either_not (a.set n) (b.set n))
      (not_sound d m (both_sound (opposite a) (opposite b) (not_sound d a s) (not_sound d b t)))
