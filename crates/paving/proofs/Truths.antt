-- The truth law, and the limits.
use Rattle.std.proofs.Common.{◌≡◌, ℕ, ◌≤◌, Bool, true, false, cond, ◌&&◌, List, [], ◌∷◌, length, sym, refl, ap, ◌∙◌, subst, inl, inr, arith}
use Rattle.std.specs.List.{AllByRecursion}
use Rattle.std.proofs.Math.Bool.{and-true}
use Rattle.std.proofs.lemmas.Bool.{and_right, cases_Bool, cases_eq, false≢true, true≢false}
use Rattle.scan.specs.Count.{bit}
use Rattle.domain.specs.Laws.{Laws}
use Rattle.domain.specs.Maps.{Maps, times}
use Rattle.contractor.specs.Meaning.{meaning, Sound}
use Rattle.domain.proofs.Totals.{times_by_all, length_total}
use Rattle.paving.specs.Laws.{Small, Truth, Limits}
use Rattle.paving.specs.Sheet.{Task, State, of_class, put}
use Rattle.paving.specs.declared.classes.Class.{Class}
use Rattle.paving.specs.declared.classes.Class.TheVariants.{Inside, Outside, Undecided}
use Rattle.paving.specs.declared.records.Record.{Record}
use Rattle.paving.proofs.Keeping.{Kept, numbered_at}
use Rattle.paving.proofs.Stepping.{Says, Steep, step_makes}
use Rattle.paving.proofs.Sums.{put_is, by_class}

-- at grain 1 no piece is small
none_small : {P : Type 0} (t : Task P) → Laws t.maps → (ps : List P) → AllByRecursion (Small t) ps → t.grain ≡ 1 → ps ≡ []
none_small t l [] a e = refl
none_small t l (p ∷ ps) a e = absurd (omega (arith, a.0.1, l.larger p a.0.0))

steep_length : {P : Type 0} (d : Maps P) (ps : List P) → Steep d ps → length ps ≤ 25
steep_length d [] h = omega arith
steep_length d (p ∷ ps) h = omega (arith, h.0)

module _ {P : Type 0} (t : Task P) (set : ℕ → Bool) where
  put_says : (c e : Class) (p : P) (ps : List P) → Says t set e p → AllByRecursion (Says t set c) ps → AllByRecursion (Says t set c) (put c e p ps)
  put_says c e p ps h a =
      elim (put_is c e p ps) [
        | inl q ↦ subst (AllByRecursion (Says t set c)) (sym q.1) (subst (λ k. Says t set k p) (sym q.0) h, a)
        | inr q ↦ subst (AllByRecursion (Says t set c)) (sym q) a
      ]

  -- what records say, class by class
  pub class_says : (c : Class) (rs : List (Record P)) → AllByRecursion (λ r. Says t set r.class r.piece) rs → AllByRecursion (Says t set c) (of_class c rs)
  class_says c [] a = tt
  class_says c (r ∷ rs) a = put_says c r.class r.piece (of_class c rs) a.0 (class_says c rs a.1)

module _ {P : Type 0} (t : Task P) (l : Laws t.maps) (set : ℕ → Bool) (sound : Sound t.maps (meaning set t.keep t.shed)) (s : State P) (k : Kept t set s) where
  decided : t.grain ≡ 1 → of_class Undecided s.made ≡ []
  decided = none_small t l (of_class Undecided s.made) (class_says t set Undecided s.made k.true_of)

  exact : t.grain ≡ 1 → s.waiting ≡ [] → (n : ℕ) → times t.maps n (of_class Inside s.made) ≡ bit (t.maps.holds t.start n && set n)
  exact g w n =
      let classes = by_class (λ p. cond (t.maps.holds p n) 1 0) s.made in
      let none = ap (times t.maps n) (decided g) in
      let all = ap (times t.maps n) w in
      elim (cases_Bool (set n)) [
        | inl e ↦ omega (arith, classes, none, all, k.shares n, ap (λ b. bit (t.maps.holds t.start n && b)) e, ap bit (and-true (t.maps.holds t.start n)), outs e)
        | inr e ↦ omega (arith, ap bit (and_right (t.maps.holds t.start n) (set n) e), ins e)
      ]
    where
      outs : set n ≡ true → times t.maps n (of_class Outside s.made) ≡ 0
      outs e =
          elim (cases_eq (times t.maps n (of_class Outside s.made)) 0) [
            | inl z ↦ z
            | inr z ↦ absurd (true≢false (sym e ∙ times_by_all t.maps (λ i. set i ≡ false) (of_class Outside s.made) (class_says t set Outside s.made k.true_of) n (omega arith)))
          ]

      ins : set n ≡ false → times t.maps n (of_class Inside s.made) ≡ 0
      ins e =
          elim (cases_eq (times t.maps n (of_class Inside s.made)) 0) [
            | inl z ↦ z
            | inr z ↦ absurd (false≢true (sym e ∙ times_by_all t.maps (λ i. set i ≡ true) (of_class Inside s.made) (class_says t set Inside s.made k.true_of) n (omega arith)))
          ]

  pub truth_law : Truth t set s
  truth_law =
      record {
        inside_all = class_says t set Inside s.made k.true_of;
        outside_none = class_says t set Outside s.made k.true_of;
        undecided_small = class_says t set Undecided s.made k.true_of;
        decided = decided;
        exact = exact;
      }

  pub limits_law : Limits t s
  limits_law =
      record {
        few_steps = omega (arith, k.steps_left, length_total t.maps l s.waiting);
        few_waiting = steep_length t.maps s.waiting k.steep;
        few_records = λ x. (step_makes t l set sound x).few;
        few_made = k.few_made;
        fits_roll = k.fits;
        labels = λ i r h. omega (arith, numbered_at 0 s.made k.numbered i r h);
      }
