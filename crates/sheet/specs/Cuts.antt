-- What a cut piece comes to.
use Rattle.std.specs.Prelude.{◌≡◌, List, ◌++◌}
use Rattle.std.specs.Option.{option_to_list}
use Rattle.domain.specs.Maps.{listed}
use Rattle.paving.specs.Steps.{Entry, entries}
use Rattle.paving.specs.declared.classes.Class.TheVariants.{Inside, Outside, Undecided}
use Rattle.sheet.specs.declared.cut.Cut.{Cut}

-- what is recorded, in order
abbrev pub cut_entries : {P : Type 0} → Cut P → List (Entry P)
cut_entries c = entries Outside (listed c.outside) ++ (entries Inside (listed c.inside) ++ entries Undecided (option_to_list c.undecided))

-- what goes back on the pile, top first
abbrev pub cut_back : {P : Type 0} → Cut P → List P
cut_back c = option_to_list c.next ++ option_to_list c.later

-- the records and the pieces that go back
pub record CutOf {P : Type 0} (c : Cut P) (es : List (Entry P)) (ps : List P) : Type 0 where
  pub records : cut_entries c ≡ es
  pub back : cut_back c ≡ ps
