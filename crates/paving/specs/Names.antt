-- The names of classes in text.
use Rattle.std.specs.Prelude.{ℕ, List, codes}
use Rattle.paving.specs.declared.classes.Class.{Class}
use Rattle.paving.specs.declared.classes.Class.TheVariants.{Inside, Outside, Undecided}

abbrev pub class_name : Class → List ℕ
class_name Inside = codes "in"
class_name Outside = codes "out"
class_name Undecided = codes "und"
