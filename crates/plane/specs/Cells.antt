-- A box of so many columns and rows: its points, and what it lies in.
use Rattle.std.specs.Prelude.{◌≡◌, ℕ, suc, ◌+◌, ◌/◌, ◌%◌, ◌<◌, ◌≤◌, Bool, ◌&&◌, ◌⊎◌, [], length, Some, None, Option}
use Rattle.std.proofs.Common.{arith, inl, inr, sym, ap, ap₂, subst, ◌∙◌}
use Rattle.std.specs.Option.{unwrap_or, option_to_list}
use Rattle.std.proofs.lemmas.Bool.{cases_lt}
use Rattle.std.proofs.lemmas.Bool.Decides.{nat_tests}
use Rattle.scan.specs.Count.{bit}
use Rattle.scan.specs.Depth.{covers}
use Rattle.scan.specs.declared.stretch.Stretch.{Stretch}
use Rattle.scan.proofs.Counting.{from_to}
use Rattle.domain.specs.Maps.{times, Inside}
use Rattle.domain.proofs.Totals.{times_cons}
use Rattle.plane.specs.declared.plane_box.PlaneBox.{PlaneBox}
use Rattle.plane.specs.Boxes.{cells, columns, rows, holds, plane}
use Rattle.plane.specs.Made.{same_box, cells_some, cells_none_across, cells_none_up}
use Rattle.plane.specs.Within.{within_from}

-- the cells of w columns from x and h rows from y
abbrev pub among : ℕ → ℕ → ℕ → ℕ → ℕ → Bool
among x y w h n = from_to x (x + w) (n % 4096) && from_to y (y + h) (n / 4096)

-- a stretch that ends before e
ended : (s : Stretch) (l e i : ℕ) → s.low ≡ l → suc s.high ≡ e → covers s i ≡ from_to l e i
ended s l e i p q = grind (arith, nat_tests)

-- there is a box, which has the cells
abbrev pub Boxed : ℕ → ℕ → ℕ → ℕ → PlaneBox → Type 0
Boxed x y w h b = (b.columns.low ≡ x) × (b.rows.low ≡ y) × (suc b.columns.high ≡ x + w) × (suc b.rows.high ≡ y + h)

pub boxed_holds : (x y w h : ℕ) (b : PlaneBox) → Boxed x y w h b → (n : ℕ) → holds b n ≡ among x y w h n
boxed_holds x y w h b m n = ap₂ ◌&&◌ (ended (columns b) x (x + w) (n % 4096) m.0 m.2) (ended (rows b) y (y + h) (n / 4096) m.1 m.3)

-- no columns, or no rows, make nothing
pub no_columns : (x y w h : ℕ) → w ≡ 0 → cells x y w h ≡ None
no_columns x y w h e = ap (λ (k : ℕ). cells x y k h) e ∙ cells_none_across x y h

pub no_rows : (x y w h : ℕ) → h ≡ 0 → cells x y w h ≡ None
no_rows x y w h e = ap (cells x y w) e ∙ cells_none_up x y w

module _ (x y w h : ℕ) (across : x + w ≤ 4096) (up : y + h ≤ 4096) where
  -- the cells make a box, or there are none
  pub cells_cases : ((b : PlaneBox) × (cells x y w h ≡ Some b) × Boxed x y w h b) ⊎ ((cells x y w h ≡ None) × ((w ≡ 0) ⊎ (h ≡ 0)))
  cells_cases =
      elim (cases_lt 0 w) [
        | inl p ↦ elim (cases_lt 0 h) [
          | inl q ↦ let c = cells_some x y w h p q across up in inl (c.0, c.1, (c.2, c.3, c.4, c.5))
          | inr q ↦ let e : h ≡ 0 = omega arith in inr (no_rows x y w h e, inr e)
        ]
        | inr p ↦ let e : w ≡ 0 = omega arith in inr (no_columns x y w h e, inl e)
      ]

  -- where there are some, they are what is chosen before any other box
  pub cells_chosen : (p : PlaneBox) → 0 < w → 0 < h → Boxed x y w h (unwrap_or (cells x y w h) p)
  cells_chosen p k l =
      elim cells_cases [
        | inl c ↦ subst (λ o. Boxed x y w h (unwrap_or o p)) (sym c.1) c.2
        | inr c ↦ absurd (omega (arith, c.1))
      ]

  none_among : (n : ℕ) → (w ≡ 0) ⊎ (h ≡ 0) → 0 ≡ bit (among x y w h n)
  none_among n (inl e) = grind (arith, nat_tests)
  none_among n (inr e) = grind (arith, nat_tests)

  pub cells_times : (n : ℕ) → times plane n (option_to_list (cells x y w h)) ≡ bit (among x y w h n)
  cells_times n =
      elim cells_cases [
        | inl c ↦ ap (λ o. times plane n (option_to_list o)) c.1 ∙ times_cons plane n c.0 [] ∙ omega (arith, ap bit (boxed_holds x y w h c.0 c.2 n))
        | inr c ↦ ap (λ o. times plane n (option_to_list o)) c.0 ∙ none_among n c.1
      ]

  pub cells_within : (p : PlaneBox) → p.columns.low ≤ x → p.rows.low ≤ y → x + w ≤ suc p.columns.high → y + h ≤ suc p.rows.high → Inside plane p (option_to_list (cells x y w h))
  cells_within p a b c d =
      elim cells_cases [
        | inl m ↦ subst (λ o. Inside plane p (option_to_list o)) (sym m.1) (within_from m.0 p (omega (arith, m.2), omega (arith, m.2), omega (arith, m.2), omega (arith, m.2)), tt)
        | inr m ↦ subst (λ o. Inside plane p (option_to_list o)) (sym m.0) tt
      ]

-- a box that has the cells is made of them
pub cells_made : (x y w h : ℕ) (b : PlaneBox) → Boxed x y w h b → cells x y w h ≡ Some b
cells_made x y w h b m =
    let a = b.columns.ordered in
    let u = b.rows.ordered in
    let r = b.columns.most in
    let t = b.rows.most in
    let c = cells_some x y w h (omega arith) (omega arith) (omega arith) (omega arith) in
    c.1 ∙ ap Some (same_box c.0 b (omega (arith, c.2), omega (arith, c.3), omega (arith, c.4), omega (arith, c.5)))

pub cells_picked : (x y w h : ℕ) (b p : PlaneBox) → Boxed x y w h b → b ≡ unwrap_or (cells x y w h) p
cells_picked x y w h b p m = ap (λ o. unwrap_or o p) (sym (cells_made x y w h b m))

pub listed_one : (o : Option PlaneBox) → length (option_to_list o) ≤ 1
listed_one None = omega arith
listed_one (Some b) = omega arith
