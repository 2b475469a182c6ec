use Rattle.std.proofs.Common.{◌/◌, ◌%◌, ◌^◌, refl, arith}
use Rattle.plane.specs.Made.{box_none}
use Rattle.plane.proofs.plane_box.piece.PlaneBoxDomain.from_number.Goals as goal

pub returns-then-number-gt0 : goal.returns-then-number-gt0
returns-then-number-gt0 c =
    let n = c.args.number in
    (box_none (n / 2 ^ 36) (n / 2 ^ 24 % 2 ^ 12) (n / 2 ^ 12 % 2 ^ 12) (n % 2 ^ 12) (λ v. omega (arith, v.0, v.2, c.if-number-gt0.true)), refl)
