-- What follows from what is printed.
use Rattle.std.proofs.Common.{ℕ, List, Ok, ◌∙◌, subst}
use Rattle.dial.specs.Arcs.{dial}
use Rattle.dial.specs.Lawful.{lawful as dial_lawful}
use Rattle.plane.specs.Boxes.{plane}
use Rattle.plane.specs.Lawful.{lawful as plane_lawful}
use Rattle.contractor.specs.Meaning.{Sound}
use Rattle.leaves.specs.declared.plane_reading.PlaneReading.{PlaneReading}
use Rattle.leaves.specs.declared.plane_reading.PlaneReading.TheVariants.{Ring, Cone}
use Rattle.leaves.specs.ConeLaws.{cone_sound}
use Rattle.leaves.specs.RingLaws.{ring_sound}
use Rattle.leaves.specs.Sweeps.{arc_sound}
use Rattle.numerals.specs.Lists.{listed}
use Rattle.readings.specs.Files.{Survey, on_plane, on_dial, HasForm, Comes, ring_line, arc_line}
use Rattle.readings.specs.Sorts.{box_numbers, arc_numbers}
use Rattle.readings.specs.declared.kind.Kind.TheVariants.{Plane, Dial}
use Rattle.readings.proofs.Forms.{comes_one, comes_written}
use Rattle.survey.specs.Grounds.{Tells, Grounded}
use Rattle.survey.specs.Orders.{Ordered}
use Rattle.survey.specs.Texts.{Prints, Says, Paves, plane_meaning, dial_meaning, box_text, arc_text}
use Rattle.survey.proofs.Counting.{told}
use Rattle.survey.proofs.Moving.{unmapped}
use Rattle.survey.proofs.Reordering.{with_readings, still_sensible, still_written, same_text}

plane_sound : (r : PlaneReading) → Sound plane (plane_meaning r)
plane_sound (Ring r) = ring_sound r
plane_sound (Cone c) = cone_sound c

-- the survey that a file comes to is the one of which the text is printed
printed : (file text : List ℕ) → Prints file text → (s : Survey) → Comes file (Ok s) → Paves s text
printed file text p s h = subst (λ r. Says r text) (comes_one file p.came (Ok s) p.comes h) p.says

tells : (s : Survey) (text : List ℕ) → Paves s text → Tells s text
tells (on_plane m) text l = told plane plane_meaning m box_text text l
tells (on_dial m) text l = told dial dial_meaning m arc_text text l

pub grounded : (file text : List ℕ) → Prints file text → Grounded file text
grounded file text p s h = tells s text (printed file text p s h)

pub ordered : (file text : List ℕ) → Prints file text → Ordered file text
ordered file text p (on_plane m) other form r =
    let z = unmapped ring_line m.readings r.lines r.moved in
    let u = on_plane (with_readings m z.0) in
    let has : HasForm other u = (still_sensible m z.0 z.2 form.0, r.bytes ∙ still_written m z.0 z.2 Plane (λ b. listed (box_numbers b)) ring_line r.lines z.1) in
    let was = printed file text p (on_plane m) (comes_written file (on_plane m) form) in (
      u,
      has,
      λ same q. same_text m z.0 z.2 plane plane_lawful plane_meaning plane_sound form.0 box_text text same was (printed other same q u (comes_written other u has)),
    )
ordered file text p (on_dial m) other form r =
    let z = unmapped arc_line m.readings r.lines r.moved in
    let u = on_dial (with_readings m z.0) in
    let has : HasForm other u = (still_sensible m z.0 z.2 form.0, r.bytes ∙ still_written m z.0 z.2 Dial (λ a. listed (arc_numbers a)) arc_line r.lines z.1) in
    let was = printed file text p (on_dial m) (comes_written file (on_dial m) form) in (
      u,
      has,
      λ same q. same_text m z.0 z.2 dial dial_lawful dial_meaning (λ a. arc_sound a.arc) form.0 arc_text text same was (printed other same q u (comes_written other u has)),
    )
