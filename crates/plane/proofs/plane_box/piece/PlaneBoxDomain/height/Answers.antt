use Rattle.std.proofs.Common.{ap, arith}
use Rattle.scan.specs.Powers.{log_up}
use Rattle.plane.specs.Lawful.{height_most}
use Rattle.plane.proofs.plane_box.piece.PlaneBoxDomain.height.Goals as goal

pub overflow_add-result : goal.overflow_add-result
overflow_add-result c =
    omega (arith, height_most c.args.self.now, c.log_up-across.ensures, c.log_up-up.ensures, ap log_up c.len.ensures, ap log_up c.len-2.ensures)
