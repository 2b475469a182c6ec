-- Judging columns and then rows loses no point of a set whose points make their columns and rows live.
use Rattle.std.specs.Prelude.{◌≡◌, ℕ, suc, ◌*◌, ◌/◌, ◌%◌, ◌≤◌, Bool, true, false, not, Some, None, Option}
use Rattle.std.proofs.Common.{arith, sym, ap, ap₂, ◌∙◌}
use Rattle.std.proofs.lemmas.Nat.{mul-le}
use Rattle.std.proofs.lemmas.Bool.{both_ways, not_from_true, not_from_false}
use Rattle.scan.specs.Live.{run, Runs}
use Rattle.scan.specs.declared.stretch.Stretch.{Stretch}
use Rattle.scan.proofs.Runs.{run_is, run_unique}
use Rattle.domain.specs.Maps.{Fits, Holds}
use Rattle.contractor.specs.Meaning.{Sound, meaning}
use Rattle.plane.specs.declared.plane_box.PlaneBox.{PlaneBox}
use Rattle.plane.specs.Boxes.{columns, rows, wide, tall, holds, crossed, plane}
use Rattle.plane.specs.Gathers.{crossed_fits, crossed_holds}
use Rattle.plane.specs.Within.{covers_is, holds_is}
use Rattle.leaves.specs.Judged.{Test, live_columns, live_rows, judged}

-- a point's column and row are live by every stretch that it lies on, and those of no other point by itself alone
pub record Sees (p : ℕ → ℕ → Bool) (f g : Test) : Type 0 where
  pub by_rows : (s : Stretch) (x y : ℕ) → s.low ≤ y → y ≤ s.high → p x y ≡ true → f s x ≡ true
  pub by_columns : (s : Stretch) (x y : ℕ) → s.low ≤ x → x ≤ s.high → p x y ≡ true → g s y ≡ true
  pub alone : (x y : ℕ) → f (record { low = y; high = y }) x ≡ p x y

module _ (p : ℕ → ℕ → Bool) (f g : Test) (v : Sees p f g) (x : PlaneBox) where
  columns_run : Runs (f (rows x)) x.columns.low (suc x.columns.high) (live_columns f x)
  columns_run = run_is (f (rows x)) x.columns.low (wide x) (suc x.columns.high) (omega (arith, x.columns.ordered))

  rows_run : (c : Stretch) → Runs (g c) x.rows.low (suc x.rows.high) (run (g c) x.rows.low (tall x))
  rows_run c = run_is (g c) x.rows.low (tall x) (suc x.rows.high) (omega (arith, x.rows.ordered))

  pub judged_fits : Fits plane x (judged f g x)
  judged_fits = go (live_columns f x) columns_run
    where
      go : (c : Option Stretch) → Runs (f (rows x)) x.columns.low (suc x.columns.high) c → Fits plane x (crossed c (live_rows g x c))
      go None q = tt
      go (Some c) q = crossed_fits x (f (rows x)) (g c) (Some c) (run (g c) x.rows.low (tall x)) q (rows_run c)

  pub judged_holds : (n : ℕ) → holds x n ≡ true → p (n % 4096) (n / 4096) ≡ true → Holds plane (judged f g x) n
  judged_holds n h e =
      let a = holds_is x n h in
      let i = covers_is (columns x) (n % 4096) a.0 in
      let j = covers_is (rows x) (n / 4096) a.1 in
      let l = v.by_rows (rows x) (n % 4096) (n / 4096) j.0 j.1 e in
      go (live_columns f x) columns_run i.0 i.1 l
    where
      go : (c : Option Stretch) → Runs (f (rows x)) x.columns.low (suc x.columns.high) c → x.columns.low ≤ n % 4096 → n % 4096 ≤ x.columns.high → f (rows x) (n % 4096) ≡ true → Holds plane (crossed c (live_rows g x c)) n
      go None q low high l = both_ways (f (rows x) (n % 4096)) (q (n % 4096) low (omega arith)) l
      go (Some c) q low high l =
          let on = q.5 (n % 4096) low (omega arith) l in
          crossed_holds x (f (rows x)) (g c) (Some c) (run (g c) x.rows.low (tall x)) q (rows_run c) n h l
          (v.by_columns c (n % 4096) (n / 4096) on.0 on.1 e)

  one_column : (n : ℕ) → x.columns.low ≡ n % 4096 → x.columns.high ≡ n % 4096 → x.rows.low ≡ n / 4096 → x.rows.high ≡ n / 4096 → p (n % 4096) (n / 4096) ≡ false → judged f g x ≡ None
  one_column n a b c d e =
      let s : rows x ≡ record { low = n / 4096; high = n / 4096 } = ap₂ (λ (l h : ℕ). record { low = l; high = h }) c d in
      let none : None ≡ live_columns f x = run_unique (f (rows x)) x.columns.low (wide x) (suc x.columns.high) (omega (arith, x.columns.ordered)) None
      (λ i low high. let k : i ≡ n % 4096 = omega arith in ap₂ f s k ∙ v.alone (n % 4096) (n / 4096) ∙ e) in
      sym (ap (λ o. crossed o (live_rows g x o)) none)

  pub judged_one : (n : ℕ) → wide x * tall x ≡ 1 → holds x n ≡ true → p (n % 4096) (n / 4096) ≡ false → judged f g x ≡ None
  judged_one n c h e =
      let a = holds_is x n h in
      let i = covers_is (columns x) (n % 4096) a.0 in
      let j = covers_is (rows x) (n / 4096) a.1 in
      let w : (wide x ≤ 1) × (tall x ≤ 1) = one_of (wide x) (tall x) (omega (arith, x.columns.ordered)) (omega (arith, x.rows.ordered)) c in
      one_column n (omega (arith, i, j, w, x.columns.ordered)) (omega (arith, i, j, w, x.columns.ordered)) (omega (arith, i, j, w, x.rows.ordered)) (omega (arith, i, j, w, x.rows.ordered)) e
    where
      one_of : (a b : ℕ) → 1 ≤ a → 1 ≤ b → a * b ≡ 1 → (a ≤ 1) × (b ≤ 1)
      one_of a b h k e = (omega (arith, mul-le a 1 a b (omega arith) k), omega (arith, mul-le 1 b a b h (omega arith)))

-- both maps of a contractor that judges so
pub judged_sound : (p : ℕ → ℕ → Bool) (f g h k : Test) → Sees p f g → Sees (λ x y. not (p x y)) h k → Sound plane (meaning (λ n. p (n % 4096) (n / 4096)) (judged f g) (judged h k))
judged_sound p f g h k v w = record {
  keep_fits = λ x. judged_fits p f g v x;
  shed_fits = λ x. judged_fits (λ x y. not (p x y)) h k w x;
  keeps = λ x n i e. judged_holds p f g v x n i e;
  sheds = λ x n i e. judged_holds (λ x y. not (p x y)) h k w x n i (not_from_false (p (n % 4096) (n / 4096)) e);
  keep_one = λ x n c i e. judged_one p f g v x n c i e;
  shed_one = λ x n c i e. judged_one (λ x y. not (p x y)) h k w x n c i (not_from_true (p (n % 4096) (n / 4096)) e);
}
