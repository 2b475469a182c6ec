-- Boxes and the numbers they are made of.
use Rattle.std.specs.Prelude.{◌≡◌, ℕ, suc, ◌+◌, ◌<◌, ◌≤◌, Some, None, Option, option_and_then, refl}
use Rattle.std.proofs.Math.Decide.{dec_le}
use Rattle.std.proofs.Common.{arith, sym, ap, ap₂, ◌∙◌}
use Rattle.scan.specs.declared.stretch.Stretch.{Stretch}
use Rattle.plane.specs.declared.span.Span.{Span}
use Rattle.plane.specs.declared.plane_box.PlaneBox.{PlaneBox}
use Rattle.plane.specs.Spans.{span_of, many_from, spanned}
use Rattle.plane.specs.Boxes.{AreBox, crossing, box_of, HasNumbers, cells, wide, tall, crossed}
use Rattle.plane.specs.Ends.{span_some, span_none, span_is, span_by, same_span, many_some, many_none, many_own}

-- there is a box, and it has these numbers
abbrev pub Made : ℕ → ℕ → ℕ → ℕ → Option PlaneBox → Type 0
Made x0 y0 x1 y1 o = (b : PlaneBox) × (o ≡ Some b) × HasNumbers x0 y0 x1 y1 b

-- nothing crossed by a span is nothing, on either side
pub crossing_none : (c : Option Span) → crossing c None ≡ None
crossing_none None = refl
crossing_none (Some c) = refl

nothing : (a : PlaneBox) → ◌≡◌ {A = Option PlaneBox} None (Some a) → ⊥
nothing a e = let z : ◌≡◌ {A = ℕ} 0 1 = cc in omega arith

-- what two spans make is made of them
crossing_is : (c r : Option Span) (b : PlaneBox) → crossing c r ≡ Some b → (c ≡ Some b.columns) × (r ≡ Some b.rows)
crossing_is None r b e = absurd (nothing b e)
crossing_is (Some c) None b e = absurd (nothing b e)
crossing_is (Some c) (Some r) b e = (cc, cc)

module _ (x0 y0 x1 y1 : ℕ) where
  pub box_some : AreBox x0 y0 x1 y1 → Made x0 y0 x1 y1 (box_of x0 y0 x1 y1)
  unfolding box_of
  box_some v =
      let c = span_some x0 x1 (v.0, v.2) in
      let r = span_some y0 y1 (v.1, v.3) in
      (record { columns = c.0; rows = r.0 }, ap₂ crossing c.1 r.1, (c.2.0, r.2.0, c.2.1, r.2.1))

  pub box_none : (AreBox x0 y0 x1 y1 → ⊥) → box_of x0 y0 x1 y1 ≡ None
  unfolding box_of
  box_none v = go (dec_le x0 x1) (dec_le x1 4095)
    where
      no_columns : span_of x0 x1 ≡ None → crossing (span_of x0 x1) (span_of y0 y1) ≡ None
      no_columns e = ap (λ c. crossing c (span_of y0 y1)) e

      go : Dec (x0 ≤ x1) → Dec (x1 ≤ 4095) → crossing (span_of x0 x1) (span_of y0 y1) ≡ None
      go (yes p) (yes q) = ap (crossing (span_of x0 x1)) (span_none y0 y1 (λ w. v (p, w.0, q, w.1))) ∙ crossing_none (span_of x0 x1)
      go (yes p) (no q) = no_columns (span_none x0 x1 (λ w. q w.1))
      go (no p) q = no_columns (span_none x0 x1 (λ w. p w.0))

  -- a box that is made has the numbers it was made of
  pub box_is : (b : PlaneBox) → box_of x0 y0 x1 y1 ≡ Some b → HasNumbers x0 y0 x1 y1 b
  unfolding box_of
  box_is b e =
      let m = crossing_is (span_of x0 x1) (span_of y0 y1) b e in
      let c = span_is x0 x1 b.columns m.0 in
      let r = span_is y0 y1 b.rows m.1 in
      (c.0, r.0, c.1, r.1)

-- numbers that a box has make it
pub box_by : (b : PlaneBox) (x0 y0 x1 y1 : ℕ) → HasNumbers x0 y0 x1 y1 b → box_of x0 y0 x1 y1 ≡ Some b
unfolding box_of
box_by b x0 y0 x1 y1 h = ap₂ crossing (span_by x0 x1 b.columns (h.0, h.2)) (span_by y0 y1 b.rows (h.1, h.3))

-- a box's own numbers make it again
pub box_own : (b : PlaneBox) → box_of b.columns.low b.rows.low b.columns.high b.rows.high ≡ Some b
box_own b = box_by b b.columns.low b.rows.low b.columns.high b.rows.high (refl, refl, refl, refl)

-- boxes of equal numbers are equal
pub same_box : (a b : PlaneBox) → HasNumbers b.columns.low b.rows.low b.columns.high b.rows.high a → a ≡ b
same_box a b h =
    ap₂ (λ (c r : Span). record { columns = c; rows = r }) (same_span a.columns b.columns (h.0, h.2)) (same_span a.rows b.rows (h.1, h.3))

-- so many cells make a box, unless there are none
pub cells_some : (x y w h : ℕ) → 0 < w → 0 < h → x + w ≤ 4096 → y + h ≤ 4096 → (b : PlaneBox) × (cells x y w h ≡ Some b) × (b.columns.low ≡ x) × (b.rows.low ≡ y) × (suc b.columns.high ≡ x + w) × (suc b.rows.high ≡ y + h)
unfolding cells
cells_some x y w h p q r s =
    let c = many_some x w p r in
    let d = many_some y h q s in
    (record { columns = c.0; rows = d.0 }, ap₂ crossing c.1 d.1, c.2.0, d.2.0, c.2.1, d.2.1)

pub cells_none_across : (x y h : ℕ) → cells x y 0 h ≡ None
unfolding cells
cells_none_across x y h = ap (λ c. crossing c (many_from y h)) (many_none x)

pub cells_none_up : (x y w : ℕ) → cells x y w 0 ≡ None
unfolding cells
cells_none_up x y w = ap (crossing (many_from x w)) (many_none y) ∙ crossing_none (many_from x w)

-- so many columns over all rows of a box, and so many rows over all its columns
pub columns_over : (b : PlaneBox) (x w : ℕ) → crossing (many_from x w) (Some b.rows) ≡ cells x b.rows.low w (tall b)
unfolding cells
columns_over b x w = ap (crossing (many_from x w)) (sym (many_own b.rows))

pub rows_over : (b : PlaneBox) (y h : ℕ) → crossing (Some b.columns) (many_from y h) ≡ cells b.columns.low y (wide b) h
unfolding cells
rows_over b y h = ap (λ c. crossing c (many_from y h)) (sym (many_own b.columns))

-- what two stretches cross in is the box of them as spans
pub crossed_by : (c r : Option Stretch) → crossing (option_and_then spanned c) (option_and_then spanned r) ≡ crossed c r
unfolding box_of
crossed_by None r = refl
crossed_by (Some c) None = crossing_none (spanned c)
crossed_by (Some c) (Some r) = refl
