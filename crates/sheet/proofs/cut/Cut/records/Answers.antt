use Rattle.std.proofs.Common.{ap, ◌∙◌, arith}
use Rattle.std.proofs.lemmas.Iterator.Consumers.{count_from_yields_List}
use mir.Val.{bool_byte}
use Rattle.sheet.proofs.Storing.{cut_length, listed_length, option_to_list_length, some_counted, strips_yield}
use Rattle.sheet.proofs.cut.Cut.records.Goals as goal

pub overflow_add-result-2 : goal.overflow_add-result-2
overflow_add-result-2 g c =
    let s = c.args.self.now in
    let outside = count_from_yields_List s.outside c.count.result c.count.ensures.ran (strips_yield s.outside) in
    let inside = count_from_yields_List s.inside c.count-2.result c.count-2.ensures.ran (strips_yield s.inside) in
    let undecided = c.from.ensures ∙ ap bool_byte c.is_some.ensures ∙ some_counted s.undecided in
    record { fits = omega (arith, outside, inside, undecided, listed_length s.outside, listed_length s.inside, option_to_list_length s.undecided) }

pub returns : goal.returns
returns g c =
    let s = c.args.self.now in
    let outside = count_from_yields_List s.outside c.count.result c.count.ensures.ran (strips_yield s.outside) in
    let inside = count_from_yields_List s.inside c.count-2.result c.count-2.ensures.ran (strips_yield s.inside) in
    let undecided = c.from.ensures ∙ ap bool_byte c.is_some.ensures ∙ some_counted s.undecided in
    (omega (arith, outside, inside, undecided, cut_length s), omega (arith, outside, inside, undecided, listed_length s.outside, listed_length s.inside, option_to_list_length s.undecided))
