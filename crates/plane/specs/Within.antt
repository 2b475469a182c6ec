-- Being a sub-box, as inequalities; and what cells a box has.
use Rattle.std.specs.Prelude.{◌≡◌, ℕ, ◌/◌, ◌%◌, ◌≤◌, true, nat_le}
use Rattle.std.proofs.lemmas.Bool.{leb-true, le-leb, and_parts, and_from}
use Rattle.scan.specs.Depth.{covers}
use Rattle.scan.specs.declared.stretch.Stretch.{Stretch}
use Rattle.plane.specs.declared.plane_box.PlaneBox.{PlaneBox}
use Rattle.plane.specs.Boxes.{columns, rows, lies_in, within, holds}

abbrev pub Within : PlaneBox → PlaneBox → Type 0
Within q p = (p.columns.low ≤ q.columns.low) × (q.columns.high ≤ p.columns.high) × (p.rows.low ≤ q.rows.low) × (q.rows.high ≤ p.rows.high)

pub within_is : (q p : PlaneBox) → within q p ≡ true → Within q p
within_is q p w =
    let a = and_parts (lies_in (columns q) (columns p)) (lies_in (rows q) (rows p)) w in
    let b = and_parts (nat_le p.columns.low q.columns.low) (nat_le q.columns.high p.columns.high) a.0 in
    let c = and_parts (nat_le p.rows.low q.rows.low) (nat_le q.rows.high p.rows.high) a.1 in
    (leb-true p.columns.low q.columns.low b.0, leb-true q.columns.high p.columns.high b.1, leb-true p.rows.low q.rows.low c.0, leb-true q.rows.high p.rows.high c.1)

pub within_from : (q p : PlaneBox) → Within q p → within q p ≡ true
within_from q p w =
    and_from (lies_in (columns q) (columns p)) (lies_in (rows q) (rows p))
    (and_from (nat_le p.columns.low q.columns.low) (nat_le q.columns.high p.columns.high) (le-leb p.columns.low q.columns.low w.0) (le-leb q.columns.high p.columns.high w.1))
    (and_from (nat_le p.rows.low q.rows.low) (nat_le q.rows.high p.rows.high) (le-leb p.rows.low q.rows.low w.2) (le-leb q.rows.high p.rows.high w.3))

-- a stretch holds an index, as inequalities
pub covers_is : (s : Stretch) (i : ℕ) → covers s i ≡ true → (s.low ≤ i) × (i ≤ s.high)
covers_is s i e =
    let a = and_parts (nat_le s.low i) (nat_le i s.high) e in
    (leb-true s.low i a.0, leb-true i s.high a.1)

pub covers_from : (s : Stretch) (i : ℕ) → s.low ≤ i → i ≤ s.high → covers s i ≡ true
covers_from s i l h = and_from (nat_le s.low i) (nat_le i s.high) (le-leb s.low i l) (le-leb i s.high h)

pub holds_is : (b : PlaneBox) (n : ℕ) → holds b n ≡ true → (covers (columns b) (n % 4096) ≡ true) × (covers (rows b) (n / 4096) ≡ true)
holds_is b n e = and_parts (covers (columns b) (n % 4096)) (covers (rows b) (n / 4096)) e

pub holds_from : (b : PlaneBox) (n : ℕ) → covers (columns b) (n % 4096) ≡ true → covers (rows b) (n / 4096) ≡ true → holds b n ≡ true
holds_from b n c r = and_from (covers (columns b) (n % 4096)) (covers (rows b) (n / 4096)) c r
