-- What a request in memory means.
use Rattle.std.specs.Prelude.{◌≡◌, ℕ, Bool, List, take, Ok, Err, Result}
use Rattle.domain.specs.Refusals.{code}
use Rattle.readings.specs.Files.{Rest, before, Meant, Survey, on_plane, on_dial}
use Rattle.domain.specs.declared.refusal.Refusal.{Refusal}
use Rattle.readings.specs.Lines.{numbered}
use Rattle.readings.specs.declared.fault.Fault.{Fault}
use Rattle.readings.specs.declared.line.Line.{Line}
use Rattle.readings.specs.declared.readings.Readings.{Readings}
use Rattle.readings.specs.declared.request.Request.{Request}
use Rattle.readings.specs.declared.request.Asked.{Asked}
use Rattle.readings.specs.declared.request.Asked.TheVariants.{Plane, Dial}

-- what a line in memory comes to, as a line of this sort
abbrev pub Judges : {X : Type 0} → (List ℕ → Bool → Result X ℕ → Type 0) → Line → Result X Refusal → Type 0
Judges J line r = J line.text.now line.ended (numbered r)

-- the readings, in the order of the file
unfoldable pub entered : {R : Type 0} → Readings R → List R
entered r = take r.len r.items

abbrev pub meant : {P R : Type 0} → Request P R → Meant P R
meant r = record { liars = r.liars; grain = r.grain; start = r.start; readings = entered r.readings }

abbrev pub asked : Asked → Survey
asked (Plane r) = on_plane (meant r)
asked (Dial r) = on_dial (meant r)

-- a fault by its number and its line
abbrev pub fault_of : Fault → ℕ × ℕ
fault_of f = (code f.refusal, f.line)

-- an answer by what it means
abbrev pub answer : {X Y : Type 0} → (X → Y) → Result X Fault → Result Y (ℕ × ℕ)
answer f (Ok x) = Ok (f x)
answer f (Err e) = Err (fault_of e)

-- what is said of a file after its first reading, where the rest of its lines comes to s
abbrev pub Further : {R : Type 0} → (List ℕ → Bool → Result R ℕ → Type 0) → R → List ℕ → Result (List R) (ℕ × ℕ) → Type 0
Further {R} J first rest r = (s : Result (List R) (ℕ × ℕ)) × Rest J 1 rest s × (r ≡ before first s)
