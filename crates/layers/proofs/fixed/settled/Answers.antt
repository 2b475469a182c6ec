use Rattle.std.proofs.Common.{rules, Some, None, arith}
use Rattle.layers.proofs.Turning.{fewer, turned_none, turned_more, turned_alike, turned_nothing}
use Rattle.layers.proofs.fixed.settled.Goals as goal

pub loop-next-init : goal.loop-next-init
loop-next-init g c f same = turned_none g.D.Domain.maps g.met.D.Domain.lawful f c.args.piece

pub returns-then-count : goal.returns-then-count
returns-then-count g c f same =
    turned_alike g.D.Domain.maps g.met.D.Domain.lawful f c.args.piece c.loop-next.rest (c.loop-next.invariant f same)
    c.in-Some.next (same c.loop-next.rest (Some c.in-Some.next) (search rules)) (omega arith)

pub loop-next-smaller : goal.loop-next-smaller
loop-next-smaller g c =
    fewer g.D.Domain.maps g.met.D.Domain.lawful c.in-Some.next c.loop-next.rest
    (c.requires.fits c.loop-next.rest (Some c.in-Some.next) (search rules)) (λ e. c.if-count.false (omega arith))

pub loop-next-preserved : goal.loop-next-preserved
loop-next-preserved g c f same =
    turned_more g.D.Domain.maps g.met.D.Domain.lawful f c.args.piece c.loop-next.rest (c.loop-next.invariant f same)
    c.in-Some.next (c.requires.fits c.loop-next.rest (Some c.in-Some.next) (search rules)) (same c.loop-next.rest (Some c.in-Some.next) (search rules))
    (λ e. c.if-count.false (omega arith))

pub returns : goal.returns
returns g c f same =
    turned_nothing g.D.Domain.maps g.met.D.Domain.lawful f c.args.piece c.loop-next.rest (c.loop-next.invariant f same)
    (same c.loop-next.rest None (search rules))
