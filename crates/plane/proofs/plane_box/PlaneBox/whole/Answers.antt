use Rattle.std.proofs.Common.{arith}
use Rattle.plane.proofs.Promised.{worked}
use Rattle.plane.proofs.plane_box.PlaneBox.whole.Goals as goal

pub returns : goal.returns
returns c = record { value = (omega arith, omega arith, omega arith, omega arith); worked = worked }
