-- The lines of a listing.
use Rattle.std.specs.Prelude.{◌≡◌, ℕ, List, [], ◌∷◌, ◌++◌, Some, codes, decimal, Option}
use Rattle.paving.specs.Names.{class_name}
use Rattle.paving.specs.declared.records.Record.{Record}
use Rattle.paving.specs.declared.tallies.Points.{Points}

-- the second gives the text that every value is shown as
abbrev pub Shown : {P : Type 0} → (P → Option (List ℕ)) → (P → List ℕ) → Type 0
Shown {P} display shown = (p : P) → display p ≡ Some (shown p)

-- the byte at the end of every line
abbrev pub line_end : List ℕ
line_end = 10 ∷ []

-- class, label and piece
abbrev pub record_line : {P : Type 0} → (P → List ℕ) → Record P → List ℕ
record_line shown r = class_name r.class ++ (codes "=" ++ (decimal r.label ++ (codes "," ++ (shown r.piece ++ line_end))))

-- the lines of records, one after another
abbrev pub records_text : {P : Type 0} → (P → List ℕ) → List (Record P) → List ℕ
records_text shown [] = []
records_text shown (r ∷ rs) = record_line shown r ++ records_text shown rs

-- the points inside, outside and undecided, and the accepted steps
abbrev pub sum_line : Points → ℕ → List ℕ
sum_line p steps = codes "sum=" ++ (decimal p.inside ++ (codes "," ++ (decimal p.outside ++ (codes "," ++ (decimal p.undecided ++ (codes "," ++ (decimal steps ++ line_end)))))))
