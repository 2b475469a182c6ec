-- The same reading lines in another order.
use Rattle.std.specs.Prelude.{◌≡◌, ℕ, List, ◌++◌, map, length, codes, decimal}
use Rattle.std.specs.List.{flat_map}
use Rattle.std.specs.List.Sorted.{IsPermutation}
use Rattle.numerals.specs.Lists.{listed}
use Rattle.readings.specs.Files.{Meant, Survey, on_plane, on_dial, HasForm, line, ring_line, arc_line}
use Rattle.readings.specs.Sorts.{name, box_numbers, arc_numbers}
use Rattle.readings.specs.declared.kind.Kind.{Kind}
use Rattle.readings.specs.declared.kind.Kind.TheVariants.{Plane, Dial}
use Rattle.survey.specs.Texts.{Prints}

-- the four lines before the readings: sheet, liars, grain, start
abbrev pub head : {P R : Type 0} → Kind → (P → List ℕ) → Meant P R → List ℕ
head k start m =
    line (codes "sheet=") (name k)
    ++ (line (codes "liars=") (decimal m.liars)
    ++ (line (codes "grain=") (decimal m.grain.size)
    ++ line (codes "start=") (start m.start)))

abbrev pub first_lines : Survey → List ℕ
first_lines (on_plane m) = head Plane (λ b. listed (box_numbers b)) m
first_lines (on_dial m) = head Dial (λ a. listed (arc_numbers a)) m

-- a line for each reading
abbrev pub reading_lines : Survey → List (List ℕ)
reading_lines (on_plane m) = map ring_line m.readings
reading_lines (on_dial m) = map arc_line m.readings

-- the line after the readings tells their number
abbrev pub last_line : Survey → List ℕ
last_line (on_plane m) = line (codes "end=") (decimal (length m.readings))
last_line (on_dial m) = line (codes "end=") (decimal (length m.readings))

-- The other bytes are those of the survey, with its reading lines in another order.
pub record Reordered (s : Survey) (other : List ℕ) : Type 0 where
  pub lines : List (List ℕ)
  pub moved : IsPermutation (reading_lines s) lines
  pub bytes : other ≡ first_lines s ++ (flat_map (λ l. l) lines ++ last_line s)

-- where the file has the form, so has each with its reading lines in another order, and what is printed is the same
abbrev pub Ordered : List ℕ → List ℕ → Type 0
Ordered file text = (s : Survey) (other : List ℕ) → HasForm file s → Reordered s other → (u : Survey) × HasForm other u × ((printed : List ℕ) → Prints other printed → printed ≡ text)
