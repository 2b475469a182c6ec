use Rattle.std.proofs.Common.{◌+◌, min, refl, ap, ◌∙◌, arith, w16, to_z, of_z}
use Rattle.std.proofs.lemmas.Int.{ints}
use Rattle.leaves.proofs.Offsets.{square_is, first_holds, first_fails}
use Rattle.leaves.proofs.ring.reach.ReachLive.is_live.Goals as goal

pub returns-then-plus-self : goal.returns-then-plus-self
returns-then-plus-self c =
    let t = c.args.self.now in
    let i = min c.args.index 4095 in
    let along = c.square-along.ensures ∙ square_is t.along (to_z w16 (of_z w16 t.along)) i i c.of.result.places c.of.ensures (omega (arith, ints)) refl in
    first_holds _ _ _ _ _ t.near.value t.far.value _ _ (c.plus.ensures ∙ ap (λ d. d + t.near.value) along) refl
    (c.plus-then-plus-self.ensures ∙ ap (λ d. d + t.far.value) along) refl c.if-plus-self.true

pub returns-else-plus-self : goal.returns-else-plus-self
returns-else-plus-self c =
    let t = c.args.self.now in
    let i = min c.args.index 4095 in
    let along = c.square-along.ensures ∙ square_is t.along (to_z w16 (of_z w16 t.along)) i i c.of.result.places c.of.ensures (omega (arith, ints)) refl in
    first_fails _ 0 _ 0 _ t.near.value t.far.value _ _ (c.plus.ensures ∙ ap (λ d. d + t.near.value) along) refl c.if-plus-self.false
