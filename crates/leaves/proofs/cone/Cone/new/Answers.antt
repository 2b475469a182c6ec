use Rattle.std.proofs.Common.{◌∙◌, sym, refl, inl, inr, w32}
use Rattle.std.proofs.lemmas.Bool.{both_ways}
use Rattle.std.proofs.lemmas.Int.{to_z-of_z}
use Rattle.std.proofs.lemmas.Result.{err_from_is_err_and}
use Rattle.leaves.specs.Cones.{IsDirection, IsOpen}
use Rattle.leaves.specs.Rings.{IsBeacon}
use Rattle.leaves.proofs.Equal.{of_two, of_four}
use Rattle.leaves.proofs.cone.Cone.new.Goals as goal

pub returns-in_err-v : goal.returns-in_err-v
returns-in_err-v c =
    let p = err_from_is_err_and c.from_residual-in_err-v.result c.from_residual-in_err-v.ensures.1 in
    let vx = to_z-of_z w32 c.args.vx c.ranges.vx in
    let vy = to_z-of_z w32 c.args.vy c.ranges.vy in
    let h = c.in_err-v.ensures in
    rw (p.1, p.2) (inl (λ r. h.0 (of_two IsDirection (sym vx) (sym vy) r.directions.1), h.1))

pub returns-then-not-opens : goal.returns-then-not-opens
returns-then-not-opens c =
    let bx = to_z-of_z w32 c.args.bx c.ranges.bx in
    let by = to_z-of_z w32 c.args.by c.ranges.by in
    let ux = to_z-of_z w32 c.args.ux c.ranges.ux in
    let uy = to_z-of_z w32 c.args.uy c.ranges.uy in
    let vx = to_z-of_z w32 c.args.vx c.ranges.vx in
    let vy = to_z-of_z w32 c.args.vy c.ranges.vy in
    let b = c.in_ok-beacon.ensures in
    let u = c.in_ok-u.ensures in
    let v = c.in_ok-v.ensures in
    inr (
      record { beacon = of_two IsBeacon bx by b.0; directions = (of_two IsDirection ux uy u.0, of_two IsDirection vx vy v.0) },
      (λ o. both_ways c.opens.result c.if-not-opens.true (c.opens.ensures.1 (of_four IsOpen (sym (u.1.0 ∙ ux)) (sym (u.1.1 ∙ uy)) (sym (v.1.0 ∙ vx)) (sym (v.1.1 ∙ vy)) o))),
      refl,
    )

pub invariant_of-result : goal.invariant_of-result
invariant_of-result c = record { opens = c.opens.ensures.0 c.if-not-opens.false }

pub returns : goal.returns
returns c =
    let bx = to_z-of_z w32 c.args.bx c.ranges.bx in
    let by = to_z-of_z w32 c.args.by c.ranges.by in
    let ux = to_z-of_z w32 c.args.ux c.ranges.ux in
    let uy = to_z-of_z w32 c.args.uy c.ranges.uy in
    let vx = to_z-of_z w32 c.args.vx c.ranges.vx in
    let vy = to_z-of_z w32 c.args.vy c.ranges.vy in
    let b = c.in_ok-beacon.ensures in
    let u = c.in_ok-u.ensures in
    let v = c.in_ok-v.ensures in (
      record { beacon = of_two IsBeacon bx by b.0; directions = (of_two IsDirection ux uy u.0, of_two IsDirection vx vy v.0) },
      of_four IsOpen (u.1.0 ∙ ux) (u.1.1 ∙ uy) (v.1.0 ∙ vx) (v.1.1 ∙ vy) (c.opens.ensures.0 c.if-not-opens.false),
      record { bx_is = b.1.0 ∙ bx; by_is = b.1.1 ∙ by; ux_is = u.1.0 ∙ ux; uy_is = u.1.1 ∙ uy; vx_is = v.1.0 ∙ vx; vy_is = v.1.1 ∙ vy },
    )
