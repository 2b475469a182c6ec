use Rattle.std.proofs.Common.{◌+◌, ◌-◌, ◌++◌, Some, sym, ap, ap₂, ◌∙◌}
use Rattle.std.specs.Option.{option_to_list}
use Rattle.plane.specs.Boxes.{crossing}
use Rattle.plane.specs.Made.{columns_over, rows_over}
use Rattle.plane.proofs.plane_box.piece.PlaneBoxDomain.strips.Goals as goal

pub returns : goal.returns
returns c =
    let p = c.args.self.now in
    let q = c.args.inner.now in
    let left = c.crossing.ensures ∙ ap (λ s. crossing s (Some p.rows)) c.before-2.ensures ∙ columns_over p p.columns.low (q.columns.low - p.columns.low) in
    let right = c.crossing-2.ensures ∙ ap (λ s. crossing s (Some p.rows)) c.after.ensures ∙ columns_over p (q.columns.high + 1) (p.columns.high - q.columns.high) in
    let below = c.crossing-3.ensures ∙ ap (crossing (Some q.columns)) c.before-3.ensures ∙ rows_over q p.rows.low (q.rows.low - p.rows.low) in
    let above = c.crossing-4.ensures ∙ ap (crossing (Some q.columns)) c.after-2.ensures ∙ rows_over q (q.rows.high + 1) (p.rows.high - q.rows.high) in (
      sym c.is_within.ensures ∙ c.if-not-is_within.false,
      ap₂ ◌++◌ (ap option_to_list left) (ap₂ ◌++◌ (ap option_to_list right) (ap₂ ◌++◌ (ap option_to_list below) (ap option_to_list above))),
    )
