use Rattle.std.proofs.Common.{◌≡◌, ℕ, subst, arith}
use Rattle.contractor.specs.Means.{means}
use Rattle.sheet.proofs.Striding.{Strode, strode_none, strode_more, ran_all, ran_refused}
use Rattle.sheet.proofs.sheet.Sheet.run.Goals as goal

pub loop-accepted-init : goal.loop-accepted-init
loop-accepted-init g c = strode_none _ _ c.args.self.now

pub returns-in-Err : goal.returns-in-Err
returns-in-Err g c = ran_refused _ g.met.C.Piece.Domain.lawful (means g.C.Contractor) g.met.C.Contractor.sound c.args.self.now c.loop-accepted.self c.step.new.self c.args.most c.loop-accepted.accepted c.in-Err.refusal c.loop-accepted-test.true c.loop-accepted.invariant c.in-Err.ensures

pub loop-accepted-preserved : goal.loop-accepted-preserved
loop-accepted-preserved g c = strode_more _ _ c.args.self.now c.loop-accepted.self c.step.new.self c.loop-accepted.accepted c.loop-accepted.invariant c.in_default.field-0 c.in_default.ensures

pub returns : goal.returns
returns g c =
    let all : c.loop-accepted.accepted ≡ c.args.most = omega (arith, c.loop-accepted.auto.accepted-end, c.loop-accepted-test.false) in
    ran_all _ g.met.C.Piece.Domain.lawful (means g.C.Contractor) g.met.C.Contractor.sound c.args.self.now c.loop-accepted.self c.args.most (subst (λ (n : ℕ). Strode g.C.Piece.Domain.maps (means g.C.Contractor) c.args.self.now n c.loop-accepted.self) all c.loop-accepted.invariant)
