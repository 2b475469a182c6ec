-- A readings file: what may be meant by one, how that is written, and what any bytes come to.
use Rattle.std.specs.Prelude.{◌≡◌, ℕ, suc, ◌+◌, ◌<◌, ◌≤◌, Bool, true, false, ◌⊎◌, List, [], ◌∷◌, ◌++◌, length, Some, None, Ok, Err, codes, decimal, Result, ◌≢◌, nat_lt}
use Rattle.std.specs.List.{flat_map}
use Rattle.dial.specs.declared.arc.Arc.{Arc}
use Rattle.plane.specs.declared.plane_box.PlaneBox.{PlaneBox}
use Rattle.leaves.specs.declared.arc.ArcReading.{ArcReading}
use Rattle.leaves.specs.declared.plane_reading.PlaneReading.{PlaneReading}
use Rattle.leaves.specs.declared.plane_reading.PlaneReading.TheVariants.{Ring as OfRing, Cone as OfCone}
use Rattle.numerals.specs.Lists.{listed}
use Rattle.sheet.specs.declared.grain.Grain.{Grain}
use Rattle.readings.specs.Lines.{Begins, Then}
use Rattle.readings.specs.Sorts.{name, box_numbers, arc_numbers, ring_numbers, cone_numbers, SheetLine, LiarsLine, GrainLine, StartLine, BoxValue, ArcValue, PlaneLine, DialLine, NextLine}
use Rattle.readings.specs.declared.kind.Kind.{Kind}
use Rattle.readings.specs.declared.kind.Kind.TheVariants.{Plane, Dial}

-- What is meant by the lines of one kind of sheet.
pub record Meant (P R : Type 0) : Type 0 where
  pub liars : ℕ
  pub grain : Grain
  pub start : P
  pub readings : List R

-- What is meant by a file.
pub data Survey : Type 0 where
  on_plane : Meant PlaneBox PlaneReading → Survey
  on_dial : Meant Arc ArcReading → Survey

-- there are at most sixteen readings, and more of them than liars
abbrev pub Sensible : {P R : Type 0} → Meant P R → Type 0
Sensible m = (m.liars < length m.readings) × (length m.readings ≤ 16)

-- a line: its key, its value, and the byte that ends it
abbrev pub line : List ℕ → List ℕ → List ℕ
line key value = key ++ (value ++ 10 ∷ [])

abbrev pub ring_line : PlaneReading → List ℕ
ring_line (OfRing r) = line (codes "ring=") (listed (ring_numbers r))
ring_line (OfCone c) = line (codes "cone=") (listed (cone_numbers c))

abbrev pub arc_line : ArcReading → List ℕ
arc_line a = line (codes "arc=") (listed (arc_numbers a.arc))

-- How lines are written: sheet, liars, grain, start, the readings, their number.
abbrev pub lines : {P R : Type 0} → Kind → (P → List ℕ) → (R → List ℕ) → Meant P R → List ℕ
lines k start reading m =
    line (codes "sheet=") (name k)
    ++ (line (codes "liars=") (decimal m.liars)
    ++ (line (codes "grain=") (decimal m.grain.size)
    ++ (line (codes "start=") (start m.start)
    ++ (flat_map reading m.readings
    ++ line (codes "end=") (decimal (length m.readings))))))

abbrev pub written : Survey → List ℕ
written (on_plane m) = lines Plane (λ b. listed (box_numbers b)) ring_line m
written (on_dial m) = lines Dial (λ a. listed (arc_numbers a)) arc_line m

-- The form of a readings file: the bytes are written of a survey that makes sense.
abbrev pub Makes : Survey → Type 0
Makes (on_plane m) = Sensible m
Makes (on_dial m) = Sensible m

abbrev pub HasForm : List ℕ → Survey → Type 0
HasForm file s = Makes s × (file ≡ written s)

-- one reading more in front
abbrev pub before : {R : Type 0} → R → Result (List R) (ℕ × ℕ) → Result (List R) (ℕ × ℕ)
before x (Ok xs) = Ok (x ∷ xs)
before x (Err f) = Err f

-- What the lines after n readings come to: the further readings, or the number and the line of the first fault. These
-- lines begin with line 5 + n.
pub data Rest {R : Type 0} (J : List ℕ → Bool → Result R ℕ → Type 0) : ℕ → List ℕ → Result (List R) (ℕ × ℕ) → Type 0 where
  refused : {n e : ℕ} {rest text after : List ℕ} {ended : Bool} → Begins rest text ended after → NextLine J n text ended (Err e) → Rest J n rest (Err (e, 5 + n))
  last : {n : ℕ} {rest text : List ℕ} {ended : Bool} → Begins rest text ended [] → NextLine J n text ended (Ok None) → Rest J n rest (Ok [])
  -- whatever stands after the end is a line with a key that is not due
  beyond : {n : ℕ} {rest text after : List ℕ} {ended : Bool} → Begins rest text ended after → NextLine J n text ended (Ok None) → (after ≢ []) → Rest J n rest (Err (15, 6 + n))
  another : {n : ℕ} {rest text after : List ℕ} {ended : Bool} {x : R} {r : Result (List R) (ℕ × ℕ)} → Begins rest text ended after → NextLine J n text ended (Ok (Some x)) → Rest J (suc n) after r → Rest J n rest (before x r)

-- all lines are faultless: too many liars are told last, and of line 2
abbrev pub judged : {P R : Type 0} → ℕ → Grain → P → Result (List R) (ℕ × ℕ) → Result (Meant P R) (ℕ × ℕ)
judged q g p (Ok rs) = elim (nat_lt q (length rs)) [ true ↦ Ok (record { liars = q; grain = g; start = p; readings = rs }) | false ↦ Err (8, 2) ]
judged q g p (Err f) = Err f

-- the lines from the start on
abbrev pub Body : {P R : Type 0} → (List ℕ → Result P ℕ → Type 0) → (List ℕ → Bool → Result R ℕ → Type 0) → ℕ → Grain → List ℕ → Result (Meant P R) (ℕ × ℕ) → Type 0
Body {P} {R} V J q g = Then (StartLine V) 4 (λ p rest r. (s : Result (List R) (ℕ × ℕ)) × Rest J 0 rest s × (r ≡ judged q g p s))

-- what is meant, on either sheet
abbrev pub told : {X Y : Type 0} → (X → Y) → Result X (ℕ × ℕ) → Result Y (ℕ × ℕ)
told f (Ok x) = Ok (f x)
told f (Err e) = Err e

abbrev pub Bodies : Kind → ℕ → Grain → List ℕ → Result Survey (ℕ × ℕ) → Type 0
Bodies Plane q g rest r = (s : Result (Meant PlaneBox PlaneReading) (ℕ × ℕ)) × Body BoxValue PlaneLine q g rest s × (r ≡ told on_plane s)
Bodies Dial q g rest r = (s : Result (Meant Arc ArcReading) (ℕ × ℕ)) × Body ArcValue DialLine q g rest s × (r ≡ told on_dial s)

abbrev pub Lines : List ℕ → Result Survey (ℕ × ℕ) → Type 0
Lines = Then SheetLine 1 (λ k. Then LiarsLine 2 (λ q. Then GrainLine 3 (λ g. Bodies k q g)))

-- What a file comes to: a survey, or the number and the line of the first fault. The size is tested before the lines.
abbrev pub Comes : List ℕ → Result Survey (ℕ × ℕ) → Type 0
Comes file r = ((4096 < length file) × (r ≡ Err (18, 0))) ⊎ ((length file ≤ 4096) × Lines file r)

-- What a file comes to is all that it comes to, and it is a survey just where the file has the form.
pub record Exact (file : List ℕ) (r : Result Survey (ℕ × ℕ)) : Type 0 where
  -- what is read is what the file is written of
  pub form : (s : Survey) → r ≡ Ok s → HasForm file s
  -- what is written and then read comes back
  pub back : (s : Survey) → HasForm file s → r ≡ Ok s
  -- no file has two meanings, or two first faults, or one of each
  pub only : (q : Result Survey (ℕ × ℕ)) → Comes file q → q ≡ r
