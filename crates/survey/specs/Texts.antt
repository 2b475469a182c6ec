-- The text that is printed for a readings file.
use Rattle.std.specs.Prelude.{◌≡◌, ℕ, List, ◌++◌, map, Ok, Err, codes, decimal, Result}
use Rattle.domain.specs.Maps.{Maps}
use Rattle.dial.specs.Arcs.{dial, holds}
use Rattle.dial.specs.declared.arc.Arc.{Arc}
use Rattle.plane.specs.Boxes.{plane}
use Rattle.plane.specs.declared.plane_box.PlaneBox.{PlaneBox}
use Rattle.contractor.specs.Layers.{relaxed, fixed}
use Rattle.contractor.specs.Meaning.{Meaning, meaning}
use Rattle.leaves.specs.Arcs.{kept, dropped}
use Rattle.leaves.specs.Readings.{reading_set, reading_kept, reading_dropped}
use Rattle.leaves.specs.declared.arc.ArcReading.{ArcReading}
use Rattle.leaves.specs.declared.plane_reading.PlaneReading.{PlaneReading}
use Rattle.paving.specs.Sheet.{task}
use Rattle.readings.specs.Files.{Meant, Survey, on_plane, on_dial, Comes}
use Rattle.listing.specs.Lines.{line_end}
use Rattle.listing.specs.Listings.{Listing}

-- the number of a fault and its line
abbrev pub fault_line : ℕ → ℕ → List ℕ
fault_line number line = codes "fault=" ++ (decimal number ++ (codes "," ++ (decimal line ++ line_end)))

-- a piece by its numbers
abbrev pub box_text : PlaneBox → List ℕ
box_text b = decimal b.columns.low ++ (codes "," ++ (decimal b.rows.low ++ (codes "," ++ (decimal b.columns.high ++ (codes "," ++ decimal b.rows.high)))))

abbrev pub arc_text : Arc → List ℕ
arc_text a = decimal a.start ++ (codes "," ++ decimal a.len)

-- what a reading means: the points that it holds, and what it keeps and sheds
abbrev pub plane_meaning : PlaneReading → Meaning PlaneBox
plane_meaning r = meaning (reading_set r) (reading_kept r) (reading_dropped r)

abbrev pub dial_meaning : ArcReading → Meaning Arc
dial_meaning r = meaning (holds r.arc) (kept r.arc) (dropped r.arc)

module _ {P R : Type 0} (d : Maps P) (each : R → Meaning P) where
  -- readings of which some may be wrong: Relaxed over them, and Fixed over that
  abbrev pub layered : Meant P R → Meaning P
  layered m = fixed d (relaxed d m.liars (map each m.readings))

  -- the text is the listing of the start, paved at the grain by these readings
  abbrev pub Paving : (P → List ℕ) → Meant P R → List ℕ → Type 0
  Paving shown m text = Listing (task d (layered m) m.start m.grain.size) (layered m).set shown text

abbrev pub Paves : Survey → List ℕ → Type 0
Paves (on_plane m) text = Paving plane plane_meaning box_text m text
Paves (on_dial m) text = Paving dial dial_meaning arc_text m text

-- what is said of a survey, or of the first fault
abbrev pub Says : Result Survey (ℕ × ℕ) → List ℕ → Type 0
Says (Ok s) text = Paves s text
Says (Err f) text = text ≡ fault_line f.0 f.1

-- What is printed: the listing of what the file comes to, or its fault.
pub record Prints (file text : List ℕ) : Type 0 where
  pub came : Result Survey (ℕ × ℕ)
  pub comes : Comes file came
  pub says : Says came text
