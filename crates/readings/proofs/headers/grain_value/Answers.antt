use Rattle.std.proofs.Common.{◌≡◌, Ok, arith}
use Rattle.std.proofs.lemmas.Option.{MatchOption-at_some}
use Rattle.std.proofs.lemmas.Result.{OkIff-at_ok}
use Rattle.readings.specs.Lines.{numbered}
use Rattle.readings.specs.Sorts.{GrainValue}
use Rattle.readings.proofs.Making.{at, read_as, natural_is, grain_made}
use Rattle.readings.proofs.headers.grain_value.Goals as goal

pub returns : goal.returns
returns c =
    let xs = c.in_ok-size.field-0 in
    let n : c.try_from.result ≡ Ok c.in_ok-map_err.field-0 = grind arith in
    let o = OkIff-at_ok c.try_from.result _ _ c.in_ok-map_err.field-0 c.try_from.ensures n in
    read_as 1 GrainValue c.args.value.now xs (MatchOption-at_some _ _ xs c.in_ok-size.ensures.ok_part c.numbers.ensures) (numbered c.new.result)
    (grain_made c.in_ok-map_err.field-0 (at xs 0) c.new.result (natural_is (at xs 0) 32 _ o.0 o.1) c.new.ensures)
