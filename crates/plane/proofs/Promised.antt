-- The smallest of all boxes that hold two others, and the worked values.
use Rattle.std.proofs.Common.{◌≡◌, ℕ, ◌+◌, ◌*◌, ◌/◌, ◌%◌, ◌<◌, min, max, true, Some, None, Option, sym, refl, subst, inl, inr, arith}
use Rattle.scan.specs.Live.{first_live, last_live, run}
use Rattle.domain.specs.Maps.{Fits, Smallest}
use Rattle.plane.specs.declared.plane_box.PlaneBox.{PlaneBox}
use Rattle.plane.specs.Spans.{span_of}
use Rattle.plane.specs.Boxes.{box_of, HasNumbers, columns, rows, holds, within, span, plane}
use Rattle.plane.specs.Promises.{InRanges, HeldByEither, Worked}
use Rattle.plane.specs.Lawful.{lawful, hull_made}
use Rattle.plane.specs.Within.{within_is, within_from, covers_is, covers_from, holds_is, holds_from}

ranges : (b : PlaneBox) (x y : ℕ) → x < 4096 → holds b (4096 * y + x) ≡ true → InRanges b x y
ranges b x y h e =
    let a = holds_is b (4096 * y + x) e in
    let c = covers_is (columns b) ((4096 * y + x) % 4096) a.0 in
    let r = covers_is (rows b) ((4096 * y + x) / 4096) a.1 in
    (omega (arith, c), omega (arith, c), omega (arith, r), omega (arith, r))

in_ranges : (b : PlaneBox) (x y : ℕ) → x < 4096 → InRanges b x y → holds b (4096 * y + x) ≡ true
in_ranges b x y h r =
    holds_from b (4096 * y + x) (covers_from (columns b) ((4096 * y + x) % 4096) (omega (arith, r)) (omega (arith, r))) (covers_from (rows b) ((4096 * y + x) / 4096) (omega (arith, r)) (omega (arith, r)))

-- what holds two corners of a box holds the box
corners : (p t : PlaneBox) → ((n : ℕ) → holds p n ≡ true → holds t n ≡ true) → within p t ≡ true
corners p t h =
    let a = p.columns.ordered in
    let u = p.rows.ordered in
    let r = p.columns.most in
    let low = ranges t p.columns.low p.rows.low (omega arith) (h _ (in_ranges p p.columns.low p.rows.low (omega arith) (omega arith, a, omega arith, u))) in
    let high = ranges t p.columns.high p.rows.high (omega arith) (h _ (in_ranges p p.columns.high p.rows.high (omega arith) (a, omega arith, u, omega arith))) in
    within_from p t (omega (arith, low), omega (arith, high), omega (arith, low), omega (arith, high))

hull_smallest : (x p q s : PlaneBox) → within p x ≡ true → within q x ≡ true → HasNumbers (min p.columns.low q.columns.low) (min p.rows.low q.rows.low) (max p.columns.high q.columns.high) (max p.rows.high q.rows.high) s → Smallest plane x (HeldByEither (Some p) (Some q)) (Some s)
hull_smallest x p q s v w h =
    let a = within_is p x v in
    let b = within_is q x w in (
      within_from s x (omega (arith, a, b), omega (arith, a, b), omega (arith, a, b), omega (arith, a, b)),
      (λ n e. elim e [
        | inl i ↦ lawful.held p s (within_from p s (omega arith, omega arith, omega arith, omega arith)) n i
        | inr i ↦ lawful.held q s (within_from q s (omega arith, omega arith, omega arith, omega arith)) n i
      ]),
      λ t _ l.
          let c = within_is p t (corners p t (λ n e. l n (inl e))) in
          let d = within_is q t (corners q t (λ n e. l n (inr e))) in
          within_from s t (omega (arith, c, d), omega (arith, c, d), omega (arith, c, d), omega (arith, c, d)),
    )

pub smallest : (x : PlaneBox) (one other : Option PlaneBox) → Fits plane x one → Fits plane x other → Smallest plane x (HeldByEither one other) (span x one other)
smallest x None None v w = λ n h. elim h [ inl a ↦ a | inr a ↦ a ]
smallest x None (Some q) v w = (w, (λ n h. elim h [ inl a ↦ absurd a | inr a ↦ a ]), λ t _ h. corners q t (λ n e. h n (inr e)))
smallest x (Some p) None v w = (v, (λ n h. elim h [ inl a ↦ a | inr a ↦ absurd a ]), λ t _ h. corners p t (λ n e. h n (inl e)))
smallest x (Some p) (Some q) v w =
    let m = hull_made p q in
    subst (Smallest plane x (HeldByEither (Some p) (Some q))) (sym m.1) (hull_smallest x p q m.0 v w m.2)

pub worked : Worked
unfolding box_of span_of run first_live last_live
worked = record { largest = refl; too_large = refl; gathered = refl; a_box = refl }
