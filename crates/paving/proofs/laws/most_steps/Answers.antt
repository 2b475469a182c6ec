use Rattle.std.proofs.Common.{arith}
use Rattle.contractor.specs.Means.{means}
use Rattle.domain.proofs.Totals.{count_most}
use Rattle.paving.proofs.SheetLaws.{paving_laws}
use Rattle.paving.proofs.laws.most_steps.Goals as goal

pub overflow_mul-result : goal.overflow_mul-result
overflow_mul-result g c =
    record { fits = omega (arith, c.count.ensures, count_most g.C.Piece.Domain.maps g.met.C.Piece.Domain.lawful c.args.start.now) }

pub overflow_sub-result : goal.overflow_sub-result
overflow_sub-result g c = omega (arith, c.count.ensures, g.met.C.Piece.Domain.lawful.some c.args.start.now)

pub returns : goal.returns
returns g c =
    let k = c.args.contractor.now in
    record {
      value = omega (arith, c.count.ensures, g.met.C.Piece.Domain.lawful.some c.args.start.now);
      laws = paving_laws g.C.Piece.Domain.maps g.met.C.Piece.Domain.lawful (means g.C.Contractor k) (g.met.C.Contractor.sound k) c.args.start.now;
    }
