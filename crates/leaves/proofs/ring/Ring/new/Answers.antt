use Rattle.std.proofs.Common.{◌∙◌, sym, refl, inr, arith, w32}
use Rattle.std.proofs.lemmas.Bool.{both_ways}
use Rattle.std.proofs.lemmas.Int.{ints, to_z-of_z}
use Rattle.leaves.specs.Rings.{AreRadii, IsBeacon}
use Rattle.leaves.proofs.Equal.{of_two}
use Rattle.leaves.proofs.ring.Ring.new.Goals as goal

pub returns-then-not-are_radii : goal.returns-then-not-are_radii
returns-then-not-are_radii c =
    let b = c.in_ok-beacon.ensures in
    inr (
      of_two IsBeacon (to_z-of_z w32 c.args.bx c.ranges.bx) (to_z-of_z w32 c.args.by c.ranges.by) b.0,
      (λ r. both_ways c.are_radii.result c.if-not-are_radii.true (c.are_radii.ensures.1 (of_two AreRadii (sym (to_z-of_z w32 c.args.a c.ranges.a)) (sym (to_z-of_z w32 c.args.b c.ranges.b)) r))),
      refl,
    )

pub overflow_cast-result : goal.overflow_cast-result
overflow_cast-result c = let r = c.are_radii.ensures.0 c.if-not-are_radii.false in grind (arith, ints)

pub invariant_of-result : goal.invariant_of-result
invariant_of-result c =
    let r = c.are_radii.ensures.0 c.if-not-are_radii.false in
    record { ordered = omega (arith, ints, r.0, r.1, r.2); most = omega (arith, ints, r.0, r.1, r.2) }

pub returns : goal.returns
returns c =
    let bx = to_z-of_z w32 c.args.bx c.ranges.bx in
    let by = to_z-of_z w32 c.args.by c.ranges.by in
    let b = c.in_ok-beacon.ensures in
    let r = c.are_radii.ensures.0 c.if-not-are_radii.false in (
      of_two IsBeacon bx by b.0,
      of_two AreRadii (to_z-of_z w32 c.args.a c.ranges.a) (to_z-of_z w32 c.args.b c.ranges.b) r,
      (b.1.0 ∙ bx, b.1.1 ∙ by, omega (arith, ints, r.0, r.1, r.2), omega (arith, ints, r.0, r.1, r.2)),
    )
