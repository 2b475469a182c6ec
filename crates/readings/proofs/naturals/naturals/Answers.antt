use Rattle.std.proofs.Common.{arith, to_z-of_z}
use Rattle.std.proofs.lemmas.Option.{MatchOption-at_some}
use Rattle.readings.proofs.Making.{all_taken}
use Rattle.readings.proofs.naturals.naturals.Goals as goal

pub returns : goal.returns
returns g c =
    let xs = c.in_ok-ok_or.field-0 in
    all_taken _ _ g.row.N c.args.value.now xs (MatchOption-at_some _ _ xs c.in_ok-ok_or.ensures.ok_part c.numbers.ensures) c.try_map.result c.try_map.ensures.ok c.try_map.ensures.err
    (λ x y p q f k. grind (arith, to_z-of_z))
    (λ x e p q f k. grind (arith, to_z-of_z))
