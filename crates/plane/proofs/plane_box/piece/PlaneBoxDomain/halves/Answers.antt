use Rattle.std.proofs.Common.{◌+◌, ◌-◌, ◌/◌, leb, sym, ap₂, ◌∙◌, arith}
use Rattle.std.proofs.lemmas.Bool.{cond-true, cond-false}
use Rattle.plane.specs.Boxes.{wide, tall, cut_columns, cut_rows}
use Rattle.plane.specs.Cells.{cells_picked}
use Rattle.plane.specs.Lawful.{several}
use Rattle.plane.proofs.plane_box.piece.PlaneBoxDomain.halves.Goals as goal

pub returns-then-is_cut_by_columns : goal.returns-then-is_cut_by_columns
returns-then-is_cut_by_columns c =
    let p = c.args.self.now in
    let t = sym c.is_cut_by_columns.ensures ∙ c.if-is_cut_by_columns.true in
    let h = c.halves.ensures in
    let i = wide p / 2 in (
      several p (omega (arith, c.size.ensures)),
      ap₂ (λ a b. (a, b))
          (cells_picked p.columns.low p.rows.low i (tall p) _ p (omega arith, omega arith, omega arith, omega arith))
          (cells_picked (p.columns.low + i) p.rows.low (wide p - i) (tall p) _ p (omega arith, omega arith, omega arith, omega arith))
          ∙ sym (cond-true (leb (tall p) (wide p)) (cut_columns p i) (cut_rows p (tall p / 2)) t),
    )

pub returns : goal.returns
returns c =
    let p = c.args.self.now in
    let t = sym c.is_cut_by_columns.ensures ∙ c.if-is_cut_by_columns.false in
    let h = c.halves-2.ensures in
    let i = tall p / 2 in (
      several p (omega (arith, c.size.ensures)),
      ap₂ (λ a b. (a, b))
          (cells_picked p.columns.low p.rows.low (wide p) i _ p (omega arith, omega arith, omega arith, omega arith))
          (cells_picked p.columns.low (p.rows.low + i) (wide p) (tall p - i) _ p (omega arith, omega arith, omega arith, omega arith))
          ∙ sym (cond-false (leb (tall p) (wide p)) (cut_columns p (wide p / 2)) (cut_rows p i) t),
    )
