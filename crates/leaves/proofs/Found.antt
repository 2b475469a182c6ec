-- What is found by running a test from both ends.
use Rattle.std.proofs.Common.{◌≡◌, ℕ, suc, ◌-◌, ◌<◌, ◌≤◌, Bool, Some, None, Option, option_and_then, arith, sym, ap, ap₂, ◌∙◌, subst}
use Rattle.scan.specs.Live.{run, Runs}
use Rattle.scan.specs.declared.stretch.Stretch.{Stretch}
use Rattle.scan.proofs.Runs.{run_is, run_ext}
use Rattle.plane.specs.Boxes.{rows, crossing, crossed}
use Rattle.plane.specs.Ends.{span_is}
use Rattle.plane.specs.Made.{crossed_by}
use Rattle.plane.specs.Spans.{long, spanned, stretch}
use Rattle.plane.specs.declared.plane_box.PlaneBox.{PlaneBox}
use Rattle.plane.specs.declared.span.Span.{Span}
use Rattle.leaves.specs.Judged.{Test, SameOnPlane, live_columns, live_rows, judged}

-- a run lies between the indices that were tested
pub run_within : (p : ℕ → Bool) (a b : ℕ) (s : Stretch) → a ≤ b → Some s ≡ run p a (b - a) → (a ≤ s.low) × (s.low ≤ s.high) × (s.high < b)
run_within p a b s h e = let f = subst (Runs p a b) (sym e) (run_is p a (b - a) b (omega arith)) in (f.0, f.1, f.2)

-- the run of what passes a test over a stretch
abbrev over : (ℕ → Bool) → Stretch → Option Stretch
over p s = run p s.low (suc s.high - s.low)

-- a span that is made of a stretch is that stretch
stretch_of : (s : Stretch) (c : Span) → Some c ≡ spanned s → stretch c ≡ s
stretch_of s c e = let h = span_is s.low s.high c (sym e) in ap₂ (λ (l k : ℕ). record { low = l; high = k }) h.0 h.1

-- over a span, two tests that are the same on the plane find the same
pub same_over : (p q : ℕ → Bool) (s : Span) → SameOnPlane p q → option_and_then spanned (over p (stretch s)) ≡ option_and_then spanned (over q (stretch s))
same_over p q s h =
    let a = s.ordered in
    let b = s.most in
    ap (option_and_then spanned) (run_ext p q s.low (long s) (λ i low high. h i (omega arith)))

-- in x, of columns c and rows r
module _ (f g : Test) (x : PlaneBox) (c r : Span) (is_c : c ≡ x.columns) (is_r : r ≡ x.rows) where
  found : over (f (stretch r)) (stretch c) ≡ live_columns f x
  found = ap₂ (λ (s t : Stretch). over (f s) t) (ap stretch is_r) (ap stretch is_c)

  pub none_across : None ≡ option_and_then spanned (over (f (stretch r)) (stretch c)) → ◌≡◌ {A = Option PlaneBox} None (judged f g x)
  none_across e =
      ap (λ (o : Option Span). crossing o (option_and_then spanned (live_rows g x (live_columns f x)))) (e ∙ ap (option_and_then spanned) found)
      ∙ crossed_by (live_columns f x) (live_rows g x (live_columns f x))

  pub some_across : (s : Span) → Some s ≡ option_and_then spanned (over (f (stretch r)) (stretch c)) → (o : Option Span) → o ≡ option_and_then spanned (over (g (stretch s)) (stretch r)) → crossing (Some s) o ≡ judged f g x
  some_across s e o h = go (live_columns f x) (e ∙ ap (option_and_then spanned) found)
    where
      go : (d : Option Stretch) → Some s ≡ option_and_then spanned d → crossing (Some s) o ≡ crossed d (live_rows g x d)
      go None k = absurd (nothing k)
        where
          nothing : ◌≡◌ {A = Option Span} (Some s) None → ⊥
          nothing q = cc
      go (Some d) k =
          let same : over (g (stretch s)) (stretch r) ≡ over (g d) (rows x) = ap₂ (λ (t u : Stretch). over (g t) u) (stretch_of d s k) (ap stretch is_r) in
          ap₂ crossing k (h ∙ ap (option_and_then spanned) same) ∙ crossed_by (Some d) (over (g d) (rows x))
