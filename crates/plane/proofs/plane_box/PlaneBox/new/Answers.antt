use Rattle.std.proofs.Common.{◌≡◌, ℕ, Some, None, Option, Result, ok_or, MatchResult, sym, refl, subst, ◌∙◌, ap₂, arith}
use Rattle.domain.specs.Refusals.{Given, code}
use Rattle.domain.specs.declared.refusal.Refusal.{Refusal}
use Rattle.domain.specs.declared.refusal.Refusal.TheVariants.{NotAPiece}
use Rattle.plane.specs.declared.plane_box.PlaneBox.{PlaneBox}
use Rattle.plane.specs.Boxes.{AreBox, HasNumbers, crossing, box_of}
use Rattle.plane.specs.Made.{box_some, box_is}
use Rattle.plane.proofs.plane_box.PlaneBox.new.Goals as goal

-- a box where the four numbers make one, and a refusal where they do not
module _ (x0 y0 x1 y1 : ℕ) where
  abbrev Answered : Result PlaneBox Refusal → Type 0
  Answered r = Given r 1 (AreBox x0 y0 x1 y1) (λ b. HasNumbers x0 y0 x1 y1 b) × MatchResult r (λ b. box_of x0 y0 x1 y1 ≡ Some b) (λ e. (box_of x0 y0 x1 y1 ≡ None) × (code e ≡ 1))

  answered : (o : Option PlaneBox) → o ≡ box_of x0 y0 x1 y1 → Answered (ok_or o NotAPiece)
  answered None e = ((λ v. let z : ◌≡◌ {A = ℕ} 0 1 = let m = box_some x0 y0 x1 y1 v in let w = e ∙ m.1 in cc in absurd (omega arith), refl), (sym e, refl))
  answered (Some b) e =
      let h = box_is x0 y0 x1 y1 b (sym e) in
      let c = b.columns in
      let r = b.rows in
      (((omega (arith, h, c.ordered), omega (arith, h, r.ordered), omega (arith, h, c.most), omega (arith, h, r.most)), h), sym e)

pub returns : goal.returns
unfolding box_of
returns c =
    let x0 = c.args.x0 in
    let y0 = c.args.y0 in
    let x1 = c.args.x1 in
    let y1 = c.args.y1 in
    let a = subst (Answered x0 y0 x1 y1) (sym c.ok_or.ensures.value) (answered x0 y0 x1 y1 c.crossing.result (c.crossing.ensures ∙ ap₂ crossing c.of.ensures c.of-2.ensures)) in
    record { value = a.0; made = a.1 }
