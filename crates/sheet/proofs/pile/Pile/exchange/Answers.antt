use Rattle.std.proofs.Common.{length, ap, arith, rules}
use Rattle.std.specs.Option.{option_to_list}
use Rattle.std.proofs.lemmas.List.{length-append}
use Rattle.sheet.specs.Piles.{waiting}
use Rattle.sheet.proofs.Piling.{waiting_length}
use Rattle.sheet.proofs.Storing.{option_to_list_length}
use Rattle.sheet.proofs.pile.Pile.exchange.Goals as goal

pub push_some-requires : goal.push_some-requires
push_some-requires g c =
    (search rules, omega (arith, c.requires.1, ap length c.pop.ensures.1, waiting_length c.args.self.now, waiting_length c.pop.new.self))

pub push_some-requires-2 : goal.push_some-requires-2
push_some-requires-2 g c =
    (search rules, omega (arith, c.requires.1, ap length c.pop.ensures.1, waiting_length c.args.self.now, waiting_length c.pop.new.self, waiting_length c.push_some.new.self, ap length c.push_some.ensures, length-append (option_to_list c.args.later) (waiting c.pop.new.self), option_to_list_length c.args.later))
