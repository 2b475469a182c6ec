-- What a list of boxes holds often enough.
use Rattle.std.specs.Prelude.{◌≡◌, ℕ, suc, ◌/◌, ◌%◌, ◌<◌, ◌≤◌, Bool, true, false, cond, List, [], ◌∷◌, map, length, Some, None, count_by, Option, nat_le, refl}
use Rattle.std.proofs.Common.{arith, inl, inr, sym, ap, ap₂, subst, ◌∙◌}
use Rattle.std.proofs.Math.Path.{fun_ext}
use Rattle.std.specs.List.{AllByRecursion}
use Rattle.std.specs.List.Sorted.{IsPermutation}
use Rattle.std.proofs.lemmas.List.Sorted.{sum_by-IsPermutation}
use Rattle.std.proofs.lemmas.List.Sums.{sum_by-cons, count_by-le-length}
use Rattle.std.proofs.lemmas.Bool.{le-leb, lt-leb, cases_Bool, both_ways, cond-false}
use Rattle.scan.specs.Depth.{covers, depth, deep}
use Rattle.scan.specs.Live.{run, Runs}
use Rattle.scan.specs.declared.stretch.Stretch.{Stretch}
use Rattle.scan.proofs.Runs.{run_is}
use Rattle.domain.specs.Maps.{times, Inside, Fits, Holds}
use Rattle.domain.proofs.Totals.{times_held}
use Rattle.plane.specs.declared.plane_box.PlaneBox.{PlaneBox}
use Rattle.plane.specs.Boxes.{columns, rows, wide, tall, holds, within, deep_columns, deep_rows, crossed, gather, plane}
use Rattle.plane.specs.Made.{box_some}
use Rattle.plane.specs.Within.{within_from, covers_is, covers_from, holds_is, holds_from}

-- where some stretch holds an index, it lies between bounds of all of them
pub between_all : (lo hi i : ℕ) (ss : List Stretch) → AllByRecursion (λ s. (lo ≤ s.low) × (s.high ≤ hi)) ss → 0 < depth ss i → (lo ≤ i) × (i ≤ hi)
between_all lo hi i [] a h = absurd (omega arith)
between_all lo hi i (s ∷ ss) a h =
    elim (cases_Bool (covers s i)) [
      | inl e ↦ let c = covers_is s i e in (omega (arith, c, a.0), omega (arith, c, a.0))
      | inr e ↦ between_all lo hi i ss a.1 (omega (arith, sum_by-cons (λ r. cond (covers r i) 1 0) s ss, cond-false {A = ℕ} (covers s i) 1 0 e))
    ]

-- one side of a box: its columns, or its rows
module _ (side : PlaneBox → Stretch) where
  -- depth over the boxes themselves
  pub depth_of : (ps : List PlaneBox) (i : ℕ) → depth (map side ps) i ≡ count_by (λ p. covers (side p) i) ps
  depth_of [] i = refl
  depth_of (p ∷ ps) i =
      omega (arith, depth_of ps i, sum_by-cons (λ s. cond (covers s i) 1 0) (side p) (map side ps), sum_by-cons (λ q. cond (covers (side q) i) 1 0) p ps)

  -- as many hold an index as hold a point, if each that holds the point holds the index
  deep_enough : (n i : ℕ) → ((p : PlaneBox) → holds p n ≡ true → covers (side p) i ≡ true) → (ps : List PlaneBox) → times plane n ps ≤ depth (map side ps) i
  deep_enough n i h [] = omega arith
  deep_enough n i h (p ∷ ps) =
      omega (arith, deep_enough n i h ps, sum_by-cons (λ s. cond (covers s i) 1 0) (side p) (map side ps), sum_by-cons (λ q. cond (holds q n) 1 0) p ps, step (holds p n) (covers (side p) i) (h p))
    where
      step : (a b : Bool) → (a ≡ true → b ≡ true) → cond a 1 0 ≤ cond b 1 0
      step true b f = omega (arith, ap (λ t. cond {A = ℕ} t 1 0) (f refl))
      step false b f = omega arith

  few : (ps : List PlaneBox) (k i : ℕ) → length ps < k → deep k (map side ps) i ≡ false
  few ps k i h = lt-leb k (depth (map side ps) i) (omega (arith, depth_of ps i, count_by-le-length (λ p. covers (side p) i) ps))

  order : (ps qs : List PlaneBox) (k a w : ℕ) → IsPermutation ps qs → run (deep k (map side ps)) a w ≡ run (deep k (map side qs)) a w
  order ps qs k a w s =
      ap (λ t. run t a w) (fun_ext (λ i. ap (nat_le k) (depth_of ps i ∙ sym (sum_by-IsPermutation (λ p. cond (covers (side p) i) 1 0) ps qs s) ∙ sym (depth_of qs i))))

-- a run of columns and a run of rows, in x
module _ (x : PlaneBox) (f g : ℕ → Bool) where
  pub crossed_fits : (c r : Option Stretch) → Runs f x.columns.low (suc x.columns.high) c → Runs g x.rows.low (suc x.rows.high) r → Fits plane x (crossed c r)
  crossed_fits None r p q = tt
  crossed_fits (Some c) None p q = tt
  crossed_fits (Some c) (Some r) p q =
      let a = x.columns.most in
      let b = x.rows.most in
      let m = box_some c.low r.low c.high r.high (p.1, q.1, omega (arith, p.2), omega (arith, q.2)) in
      let h = m.2 in
      subst (Fits plane x) (sym m.1) (within_from m.0 x (omega (arith, p.0, h), omega (arith, p.2, h), omega (arith, q.0, h), omega (arith, q.2, h)))

  -- a point whose column and row are live is in the box
  pub crossed_holds : (c r : Option Stretch) → Runs f x.columns.low (suc x.columns.high) c → Runs g x.rows.low (suc x.rows.high) r → (n : ℕ) → holds x n ≡ true → f (n % 4096) ≡ true → g (n / 4096) ≡ true → Holds plane (crossed c r) n
  crossed_holds c r p q n h u v =
      let a = holds_is x n h in
      let i = covers_is (columns x) (n % 4096) a.0 in
      let j = covers_is (rows x) (n / 4096) a.1 in
      go c r p q i.0 (omega (arith, i)) j.0 (omega (arith, j))
    where
      go : (c r : Option Stretch) → Runs f x.columns.low (suc x.columns.high) c → Runs g x.rows.low (suc x.rows.high) r → x.columns.low ≤ n % 4096 → n % 4096 < suc x.columns.high → x.rows.low ≤ n / 4096 → n / 4096 < suc x.rows.high → Holds plane (crossed c r) n
      go None r p q a b c d = both_ways (f (n % 4096)) (p (n % 4096) a b) u
      go (Some s) None p q a b c d = both_ways (g (n / 4096)) (q (n / 4096) c d) v
      go (Some s) (Some t) p q a b c d =
          let m = box_some s.low t.low s.high t.high (p.1, q.1, omega (arith, p.2, x.columns.most), omega (arith, q.2, x.rows.most)) in
          let e = m.2 in
          let i = p.5 (n % 4096) a b u in
          let j = q.5 (n / 4096) c d v in
          subst (λ o. Holds plane o n) (sym m.1) (holds_from m.0 n (covers_from (columns m.0) (n % 4096) (omega (arith, i, e)) (omega (arith, i, e))) (covers_from (rows m.0) (n / 4096) (omega (arith, j, e)) (omega (arith, j, e))))

  crossed_none : (c r : Option Stretch) → Runs f x.columns.low (suc x.columns.high) c → ((i : ℕ) → f i ≡ false) → crossed c r ≡ None
  crossed_none None r p d = refl
  crossed_none (Some c) r p d = absurd (both_ways (f c.low) (d c.low) p.3)

columns_run : (x : PlaneBox) (ps : List PlaneBox) (k : ℕ) → Runs (deep k (map columns ps)) x.columns.low (suc x.columns.high) (deep_columns x ps k)
columns_run x ps k = run_is (deep k (map columns ps)) x.columns.low (wide x) (suc x.columns.high) (omega (arith, x.columns.ordered))

rows_run : (x : PlaneBox) (ps : List PlaneBox) (k : ℕ) → Runs (deep k (map rows ps)) x.rows.low (suc x.rows.high) (deep_rows x ps k)
rows_run x ps k = run_is (deep k (map rows ps)) x.rows.low (tall x) (suc x.rows.high) (omega (arith, x.rows.ordered))

pub gather_within : (x : PlaneBox) (ps : List PlaneBox) (k : ℕ) → Fits plane x (gather x ps k)
gather_within x ps k =
    crossed_fits x (deep k (map columns ps)) (deep k (map rows ps)) (deep_columns x ps k) (deep_rows x ps k) (columns_run x ps k) (rows_run x ps k)

pub gather_holds : ((q p : PlaneBox) → within q p ≡ true → (n : ℕ) → holds q n ≡ true → holds p n ≡ true) → (x : PlaneBox) (ps : List PlaneBox) (k : ℕ) → 0 < k → Inside plane x ps → (n : ℕ) → k ≤ times plane n ps → Holds plane (gather x ps k) n
gather_holds held x ps k s a n h =
    crossed_holds x (deep k (map columns ps)) (deep k (map rows ps)) (deep_columns x ps k) (deep_rows x ps k) (columns_run x ps k) (rows_run x ps k) n
    (times_held plane x n (λ q w e. held q x w n e) ps a (omega arith))
    (le-leb k (depth (map columns ps) (n % 4096)) (omega (arith, deep_enough columns n (n % 4096) (λ p e. (holds_is p n e).0) ps)))
    (le-leb k (depth (map rows ps) (n / 4096)) (omega (arith, deep_enough rows n (n / 4096) (λ p e. (holds_is p n e).1) ps)))

pub gather_few : (x : PlaneBox) (ps : List PlaneBox) (k : ℕ) → length ps < k → gather x ps k ≡ None
gather_few x ps k h =
    crossed_none x (deep k (map columns ps)) (deep k (map rows ps)) (deep_columns x ps k) (deep_rows x ps k) (columns_run x ps k) (λ i. few columns ps k i h)

pub gather_order : (x : PlaneBox) (ps qs : List PlaneBox) (k : ℕ) → IsPermutation ps qs → gather x ps k ≡ gather x qs k
gather_order x ps qs k s = ap₂ crossed (order columns ps qs k x.columns.low (wide x) s) (order rows ps qs k x.rows.low (tall x) s)
