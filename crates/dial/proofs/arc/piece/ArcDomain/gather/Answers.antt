use Rattle.std.proofs.Common.{arith}
use Rattle.dial.proofs.Smallest.{gather_fits, gather_answer}
use Rattle.dial.proofs.arc.piece.ArcDomain.gather.Goals as goal

pub along-requires : goal.along-requires
along-requires c =
    gather_fits c.args.self.now c.args.members.now c.args.depth c.deep_run.result (omega arith)
    (c.has_members.ensures.0 c.if-not-has_members.false) c.deep_run.ensures

pub returns : goal.returns
returns c =
    let r = gather_answer c.args.self.now c.args.members.now c.args.depth c.deep_run.result (omega arith)
    (c.has_members.ensures.0 c.if-not-has_members.false) c.deep_run.ensures c.along.result c.along.ensures in
    record { value = r.0; smallest = r.1 }
