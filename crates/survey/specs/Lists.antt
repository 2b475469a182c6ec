-- The readings of a list.
use Rattle.std.specs.Prelude.{List, take}
use Rattle.panels.specs.declared.reading_list.ReadingList.{ReadingList}

-- the readings, in the order of entry
abbrev pub readings_of : {R : Type 0} → ReadingList R → List R
readings_of p = take p.len p.memory.now
