-- What a listing is, and what it promises.
use Rattle.std.specs.Prelude.{◌≡◌, ℕ, ◌+◌, ◌*◌, ◌<◌, ◌≤◌, Bool, ◌&&◌, List, [], ◌++◌, length, slice_index_or}
use Rattle.std.specs.List.{AllByRecursion}
use Rattle.scan.specs.Count.{bit}
use Rattle.domain.specs.Maps.{Parts, times}
use Rattle.paving.specs.Laws.{AllOf, NoneOf, Small, points_in}
use Rattle.paving.specs.Sheet.{Task, State, pieces, of_class}
use Rattle.paving.specs.Turns.{points_of, after_turns}
use Rattle.paving.specs.declared.classes.Class.TheVariants.{Inside, Outside, Undecided}
use Rattle.paving.specs.declared.records.Record.{Record}
use Rattle.paving.specs.declared.tallies.Points.{Points}
use Rattle.paving.specs.declared.turns.Turn.{Turn}
use Rattle.listing.specs.Lines.{records_text, sum_line}

-- the lines of all records that were ever made, in label order, and the sum line
abbrev pub sheet_text : {P : Type 0} → Task P → (P → List ℕ) → State P → List ℕ
sheet_text t shown s = records_text shown s.made ++ sum_line (points_of t s.made) s.steps

-- What a text says of the ground: it is the lines of some records, and these are true.
pub record Ground {P : Type 0} (t : Task P) (set : ℕ → Bool) (shown : P → List ℕ) (text : List ℕ) : Type 0 where
  pub records : List (Record P)
  pub points : Points
  pub steps : ℕ
  pub lines : text ≡ records_text shown records ++ sum_line points steps
  -- the labels are 0, 1, 2 and so on
  pub labels : (k : ℕ) (r : Record P) → k < length records → (slice_index_or records k r).label ≡ k
  -- each point of the start lies in exactly one of the pieces, and no other point in any
  pub shared : Parts t.maps t.start (pieces records)
  -- every point of an inside piece is of the set, and none of an outside piece is
  pub inside_all : AllByRecursion (AllOf t.maps set) (of_class Inside records)
  pub outside_none : AllByRecursion (NoneOf t.maps set) (of_class Outside records)
  -- an undecided piece has more than one point, and a size of at most the grain; at grain 1 there is none
  pub undecided_small : AllByRecursion (Small t) (of_class Undecided records)
  pub decided : t.grain ≡ 1 → of_class Undecided records ≡ []
  -- at grain 1 the inside pieces hold exactly the start's points of the set
  pub exact : t.grain ≡ 1 → (n : ℕ) → times t.maps n (of_class Inside records) ≡ bit (t.maps.holds t.start n && set n)
  -- the points are those of the records, class by class, and add up to the start's
  pub totals : points ≡ points_of t records
  pub added : points_in points ≡ t.maps.count t.start
  -- for a start of c points, at most 2c - 1 steps
  pub few_steps : steps + 1 ≤ 2 * t.maps.count t.start

-- The text of a paved sheet.
pub record Listing {P : Type 0} (t : Task P) (set : ℕ → Bool) (shown : P → List ℕ) (text : List ℕ) : Type 0 where
  -- turns from the opening after which nothing waits
  pub turns : List Turn
  pub done : (after_turns t turns).waiting ≡ []
  -- whatever turns pave the sheet, the text is the same
  pub always : (us : List Turn) → (after_turns t us).waiting ≡ [] → text ≡ sheet_text t shown (after_turns t us)
  pub ground : Ground t set shown text
