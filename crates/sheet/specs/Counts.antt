-- Points by class.
use Rattle.std.specs.Prelude.{ℕ, ◌+◌}
use Rattle.paving.specs.declared.classes.Class.{Class}
use Rattle.paving.specs.declared.classes.Class.TheVariants.{Inside, Outside, Undecided}
use Rattle.paving.specs.declared.tallies.Points.{Points}

-- so many points more of one class
abbrev pub plus : Points → Class → ℕ → Points
plus p Inside n = record { inside = p.inside + n; outside = p.outside; undecided = p.undecided }
plus p Outside n = record { inside = p.inside; outside = p.outside + n; undecided = p.undecided }
plus p Undecided n = record { inside = p.inside; outside = p.outside; undecided = p.undecided + n }
