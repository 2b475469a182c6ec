use Rattle.std.proofs.Common.{sym, refl, ◌∙◌, arith}
use Rattle.std.proofs.lemmas.Bool.{both_ways}
use Rattle.domain.proofs.Totals.{consequences, count_within, strips_total}
use Rattle.domain.proofs.sums.points_left.Goals as goal

pub returns-then-not-is_within : goal.returns-then-not-is_within
returns-then-not-is_within g c = record {
  value = (λ w. both_ways c.is_within.result c.if-not-is_within.true (c.is_within.ensures ∙ w), refl);
  always = consequences g.P.Domain.maps g.met.P.Domain.lawful;
}

pub overflow_sub-result : goal.overflow_sub-result
overflow_sub-result g c =
    let w = sym c.is_within.ensures ∙ c.if-not-is_within.false in
    omega (arith, count_within g.P.Domain.maps g.met.P.Domain.lawful c.args.part.now c.args.whole.now w, c.count.ensures, c.count-2.ensures)

pub returns : goal.returns
returns g c =
    let w = sym c.is_within.ensures ∙ c.if-not-is_within.false in
    let t = strips_total g.P.Domain.maps g.met.P.Domain.lawful c.args.whole.now c.args.part.now w in
    record {
      value = (w, (omega (arith, t, c.count.ensures, c.count-2.ensures), omega (arith, t, c.count.ensures, c.count-2.ensures)));
      always = consequences g.P.Domain.maps g.met.P.Domain.lawful;
    }
