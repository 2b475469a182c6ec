-- How a fault is told.
use Rattle.std.specs.Prelude.{ℕ, List, ◌++◌, codes, decimal}

-- the number of a fault, and its line
abbrev pub fault_text : ℕ → ℕ → List ℕ
fault_text number line = codes "fault=" ++ (decimal number ++ (codes "," ++ decimal line))
