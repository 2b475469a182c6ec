-- What the printed text says of the ground.
use Rattle.std.specs.Prelude.{◌≡◌, ℕ, ◌-◌, ◌<◌, ◌≤◌, true, List, length, Ok, count_by}
use Rattle.std.specs.List.{AllByRecursion}
use Rattle.domain.specs.Maps.{Maps}
use Rattle.dial.specs.Arcs.{dial}
use Rattle.plane.specs.Boxes.{plane}
use Rattle.contractor.specs.Meaning.{Meaning}
use Rattle.paving.specs.Sheet.{task, of_class}
use Rattle.paving.specs.declared.classes.Class.TheVariants.{Inside, Outside}
use Rattle.readings.specs.Files.{Meant, Survey, on_plane, on_dial, Comes}
use Rattle.listing.specs.Listings.{Ground}
use Rattle.survey.specs.Texts.{layered, plane_meaning, dial_meaning, box_text, arc_text}

-- There are n readings, and q of them may be wrong.
module _ {P R : Type 0} (d : Maps P) (each : R → Meaning P) (m : Meant P R) where
  -- how many of the readings hold a point
  abbrev pub held_by : ℕ → ℕ
  held_by point = count_by (λ r. (each r).set point) m.readings

  -- at least n - q readings hold each point of the piece
  abbrev pub Held : P → Type 0
  Held p = (point : ℕ) → d.holds p point ≡ true → length m.readings - m.liars ≤ held_by point

  -- fewer than n - q readings hold each point of the piece
  abbrev pub Unheld : P → Type 0
  Unheld p = (point : ℕ) → d.holds p point ≡ true → held_by point < length m.readings - m.liars

  -- The text is the lines of some records, and these are true of the ground.
  pub record Told (shown : P → List ℕ) (text : List ℕ) : Type 0 where
    -- labels, shares, grain and sums are right
    pub ground : Ground (task d (layered d each m) m.start m.grain.size) (layered d each m).set shown text
    -- inside pieces are held, and outside pieces are not
    pub inside_held : AllByRecursion Held (of_class Inside ground.records)
    pub outside_unheld : AllByRecursion Unheld (of_class Outside ground.records)

-- on either sheet, by the readings' own sets
abbrev pub Tells : Survey → List ℕ → Type 0
Tells (on_plane m) text = Told plane plane_meaning m box_text text
Tells (on_dial m) text = Told dial dial_meaning m arc_text text

-- the text tells the ground of the survey that the file comes to
abbrev pub Grounded : List ℕ → List ℕ → Type 0
Grounded file text = (s : Survey) → Comes file (Ok s) → Tells s text
