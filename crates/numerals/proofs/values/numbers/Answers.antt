use Rattle.std.proofs.Common.{ℤ, ◌+◌, ◌-◌, set, sym, subst, to_z-of_z, arith, w32, SFits, rules}
use Rattle.numerals.specs.Lists.{Lists}
use Rattle.numerals.proofs.Commas.{Midway, midway_more, midway_none, midway_last, midway_ill}
use Rattle.numerals.proofs.values.numbers.Goals as goal

pub returns-in_err-numbers : goal.returns-in_err-numbers
returns-in_err-numbers g c =
    rw c.from_residual.ensures (midway_none g.row.N c.loop-i.i c.args.text.now c.loop-i.numbers c.loop-i.rest.now c.loop-i.invariant (omega arith) c.in_err-numbers.ensures)

pub loop-i-preserved : goal.loop-i-preserved
loop-i-preserved g c =
    let e = c.in_ok-numbers.ensures in
    subst (λ (y : ℤ). Midway g.row.N (c.loop-i.i + 1) c.args.text.now (set c.loop-i.numbers c.loop-i.i y) c.in_ok-numbers.field-0-1.now) (sym (to_z-of_z e.1))
    (midway_more g.row.N c.loop-i.i c.args.text.now c.loop-i.numbers c.loop-i.rest.now c.loop-i.invariant c.in_ok-numbers.field-0-0 c.in_ok-numbers.field-0-1.now (omega arith) e.1 e.0)

pub returns-in_err-numbers-2 : goal.returns-in_err-numbers-2
returns-in_err-numbers-2 g c =
    rw c.from_residual-in_err-numbers-2.ensures (midway_ill g.row.N c.loop-i.i c.args.text.now c.loop-i.numbers c.loop-i.rest.now c.loop-i.invariant (omega arith) c.in_err-numbers-2.ensures)

pub returns : goal.returns
returns g c =
    let z = c.in_ok-numbers-2.field-0 in
    let f : SFits w32 c.in_ok-numbers-2.field-0 = search rules in
    subst (λ (y : ℤ). Lists g.row.N c.args.text.now (set c.loop-i.numbers (g.row.N - 1) y)) (sym (to_z-of_z f))
    (midway_last g.row.N c.loop-i.i c.args.text.now c.loop-i.numbers c.loop-i.rest.now c.loop-i.invariant z (omega arith) f c.in_ok-numbers-2.ensures)
