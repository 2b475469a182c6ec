-- First, last and run are what their definitions say, and nothing else is.
use Rattle.std.proofs.Common.{◌≡◌, ℕ, zero, suc, ◌+◌, ◌-◌, ◌<◌, ◌≤◌, Bool, true, false, Some, None, Option, sym, refl, ap, ◌∙◌, subst, ap₂, inl, inr, arith}
use Rattle.std.proofs.lemmas.Bool.{cases_eq, cases_lt, both_ways}
use Rattle.scan.specs.Live.{Dead, First, Last, first_live, last_live, between, run, Runs}
use Rattle.scan.specs.declared.stretch.Stretch.{Stretch}

module _ (p : ℕ → Bool) where
  -- one index more at the front of a dead range, and at its end
  dead_front : (a b : ℕ) → p a ≡ false → Dead p (suc a) b → Dead p a b
  dead_front a b e d i low high =
      elim (cases_eq a i) [ inl q ↦ subst (λ (k : ℕ). p k ≡ false) q e | inr n ↦ d i (omega arith) high ]

  dead_end : (a b c : ℕ) → c ≡ suc b → p b ≡ false → Dead p a b → Dead p a c
  dead_end a b c s e d i low high =
      elim (cases_eq b i) [ inl q ↦ subst (λ (k : ℕ). p k ≡ false) q e | inr n ↦ d i low (omega arith) ]

  first_step : (a b : ℕ) (r : Option ℕ) (t : Bool) → a < b → p a ≡ t → First p (suc a) b r → First p a b (elim t [ true ↦ Some a | false ↦ r ])
  first_step a b r true h e f = (omega arith, h, e, λ i low high. absurd (omega arith))
  first_step a b None false h e f = dead_front a b e f
  first_step a b (Some i) false h e f = (omega (arith, f.0), f.1, f.2, dead_front a i e f.3)

  pub first_is : (w a b : ℕ) → b ≡ a + w → First p a b (first_live p a w)
  unfolding first_live
  first_is zero a b s = λ i low high. absurd (omega arith)
  first_is (suc w) a b s = first_step a b (first_live p (suc a) w) (p a) (omega arith) refl (first_is w (suc a) b (omega arith))

  pub last_step : (a m b : ℕ) (r : Option ℕ) (t : Bool) → a ≤ m → b ≡ suc m → p m ≡ t → Last p a m r → Last p a b (elim t [ true ↦ Some m | false ↦ r ])
  last_step a m b r true h s e f = (h, omega arith, e, λ i low high. absurd (omega arith))
  last_step a m b None false h s e f = dead_end a m b s e f
  last_step a m b (Some i) false h s e f = (f.0, omega (arith, f.1), f.2, dead_end (suc i) m b s e f.3)

  pub last_is : (w a b : ℕ) → b ≡ a + w → Last p a b (last_live p a w)
  unfolding last_live
  last_is zero a b s = λ i low high. absurd (omega arith)
  last_is (suc w) a b s =
      last_step a (a + w) b (last_live p a w) (p (a + w)) (omega arith) (omega arith) refl (last_is w a (a + w) refl)

  -- a live index is not in a dead range
  dead_live : (a b i : ℕ) → Dead p a b → a ≤ i → i < b → p i ≡ true → ⊥
  dead_live a b i d low high e = both_ways (p i) (d i low high) e

  -- there is one first and one last
  pub first_unique : (a b : ℕ) (r s : Option ℕ) → First p a b r → First p a b s → r ≡ s
  first_unique a b None None f g = refl
  first_unique a b None (Some j) f g = absurd (dead_live a b j f g.0 g.1 g.2)
  first_unique a b (Some i) None f g = absurd (dead_live a b i g f.0 f.1 f.2)
  first_unique a b (Some i) (Some j) f g =
      ap Some (elim (cases_lt i j) [ inl h ↦ absurd (dead_live a j i g.3 f.0 h f.2) | inr h ↦ elim (cases_lt j i) [ inl k ↦ absurd (dead_live a i j f.3 g.0 k g.2) | inr k ↦ omega arith ] ])

  pub last_unique : (a b : ℕ) (r s : Option ℕ) → Last p a b r → Last p a b s → r ≡ s
  last_unique a b None None f g = refl
  last_unique a b None (Some j) f g = absurd (dead_live a b j f g.0 g.1 g.2)
  last_unique a b (Some i) None f g = absurd (dead_live a b i g f.0 f.1 f.2)
  last_unique a b (Some i) (Some j) f g =
      ap Some (elim (cases_lt i j) [ inl h ↦ absurd (dead_live (suc i) b j f.3 h g.1 g.2) | inr h ↦ elim (cases_lt j i) [ inl k ↦ absurd (dead_live (suc j) b i g.3 k f.1 f.2) | inr k ↦ omega arith ] ])

  -- a live index lies between the first and the last
  on_run : (a b low high : ℕ) → Dead p a low → Dead p (suc high) b → (i : ℕ) → a ≤ i → i < b → p i ≡ true → (low ≤ i) × (i ≤ high)
  on_run a b low high d e i l h t = (
    elim (cases_lt i low) [ inl k ↦ absurd (dead_live a low i d l k t) | inr k ↦ k ],
    elim (cases_lt high i) [ inl k ↦ absurd (dead_live (suc high) b i e k h t) | inr k ↦ k ],
  )

  runs_of : (a b : ℕ) (r s : Option ℕ) → First p a b r → Last p a b s → Runs p a b (between r s)
  runs_of a b None s f g = f
  runs_of a b (Some low) None f g = absurd (dead_live a b low g f.0 f.1 f.2)
  runs_of a b (Some low) (Some high) f g = (f.0, (on_run a b low high f.3 g.3 low f.0 f.1 f.2).1, g.1, f.2, g.2, on_run a b low high f.3 g.3)

  pub run_is : (a w b : ℕ) → b ≡ a + w → Runs p a b (run p a w)
  unfolding run
  run_is a w b s = runs_of a b (first_live p a w) (last_live p a w) (first_is w a b s) (last_is w a b s)

  pub runs_unique : (a b : ℕ) (r s : Option Stretch) → Runs p a b r → Runs p a b s → r ≡ s
  runs_unique a b None None f g = refl
  runs_unique a b None (Some j) f g = absurd (dead_live a b j.low f g.0 (omega (arith, g.1, g.2)) g.3)
  runs_unique a b (Some i) None f g = absurd (dead_live a b i.low g f.0 (omega (arith, f.1, f.2)) f.3)
  runs_unique a b (Some i) (Some j) f g =
      let l = f.5 j.low g.0 (omega (arith, g.1, g.2)) g.3 in
      let m = g.5 i.low f.0 (omega (arith, f.1, f.2)) f.3 in
      let n = f.5 j.high (omega (arith, g.0, g.1)) g.2 g.4 in
      let o = g.5 i.high (omega (arith, f.0, f.1)) f.2 f.4 in
      let low : i.low ≡ j.low = omega (arith, l, m) in
      let high : i.high ≡ j.high = omega (arith, n, o) in
      ap₂ (λ (x y : ℕ). Some (record { low = x; high = y })) low high

  -- the run of the w indices from a is the only one
  pub run_unique : (a w b : ℕ) → b ≡ a + w → (r : Option Stretch) → Runs p a b r → r ≡ run p a w
  run_unique a w b s r f = runs_unique a b r (run p a w) f (run_is a w b s)

  -- a search from both ends inward finds the run
  pub run_none : (a b : ℕ) → Dead p a b → None ≡ run p a (b - a)
  run_none a b d = run_unique a (b - a) (a + (b - a)) refl None (λ i low high. d i low (omega arith))

  pub run_some : (a b low high : ℕ) → First p a b (Some low) → Last p low b (Some high) → Some (record { low = low; high = high }) ≡ run p a (b - a)
  run_some a b low high f g =
      run_unique a (b - a) b (omega (arith, f.0, f.1)) (Some (record { low = low; high = high }))
      (f.0, g.0, g.1, f.2, g.2, on_run a b low high f.3 g.3)

  pub last_found : (a b low : ℕ) → First p a b (Some low) → Last p low b None → ⊥
  last_found a b low f d = dead_live low b low d (omega arith) f.1 f.2

-- tests that agree on a range have one run there
pub run_ext : (p q : ℕ → Bool) (a w : ℕ) → ((i : ℕ) → a ≤ i → i < a + w → p i ≡ q i) → run p a w ≡ run q a w
run_ext p q a w same = run_unique q a w (a + w) refl (run p a w) (over (run p a w) (run_is p a w (a + w) refl))
  where
    over : (r : Option Stretch) → Runs p a (a + w) r → Runs q a (a + w) r
    over None d = λ i low high. sym (same i low high) ∙ d i low high
    over (Some s) f = (
      f.0,
      f.1,
      f.2,
      sym (same s.low f.0 (omega (arith, f.1, f.2))) ∙ f.3,
      sym (same s.high (omega (arith, f.0, f.1)) f.2) ∙ f.4,
      λ i low high e. f.5 i low high (same i low high ∙ e),
    )
