use Rattle.std.proofs.Common.{◌≡◌, ℕ, min, unsigned_abs, inl, inr, ap, ◌∙◌, arith, w16, w32, to_z, of_z}
use Rattle.std.proofs.lemmas.Int.{ints, clamps, to_z-of_z}
use Rattle.std.proofs.lemmas.Bool.{cases_eq}
use Rattle.scan.specs.declared.stretch.Stretch.{Stretch}
use Rattle.plane.specs.Spans.{stretch}
use Rattle.leaves.specs.Distances.{nearest_at, Nearest}
use Rattle.leaves.specs.Rings.{square}
use Rattle.leaves.proofs.Offsets.{square_is}
use Rattle.leaves.proofs.ring.reach.nearest.Goals as goal

pub returns : goal.returns
returns c =
    let s = stretch c.args.span in
    let k : ℕ = unsigned_abs (to_z w32 (of_z w32 c.clamp-at.result)) in
    let l : c.from-low.result.low ≡ c.args.span.low = ap (λ (t : Stretch). t.low) c.from-low.ensures in
    let h : c.from-low.result.high ≡ c.args.span.high = ap (λ (t : Stretch). t.high) c.from-low.ensures in
    let n : Nearest c.args.beacon s k = (
      omega (arith, ints, clamps),
      omega (arith, ints, clamps),
      elim (cases_eq k s.low) [ inl e ↦ inr e | inr e ↦ inl (omega (arith, ints, clamps)) ],
      elim (cases_eq k s.high) [ inl e ↦ inr e | inr e ↦ inl (omega (arith, ints, clamps)) ],
    ) in
    let b : to_z w16 (of_z w16 c.args.beacon) ≡ c.args.beacon = to_z-of_z w16 c.args.beacon c.ranges.beacon in
    let m : min k 4095 ≡ k = omega (arith, n.1, c.args.span.most) in
    c.square.ensures ∙ square_is c.args.beacon (to_z w16 (of_z w16 c.args.beacon)) (min k 4095) k c.of.result.places c.of.ensures b m
    ∙ ap square (nearest_at c.args.beacon s k n)
