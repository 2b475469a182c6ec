-- The sorts of lines of a readings file.
use Rattle.std.specs.Prelude.{◌≡◌, ℕ, ◌≤◌, min, Bool, true, false, cond, ◌⊎◌, List, [], ◌∷◌, map, ℤ, pos, Some, None, Ok, Err, codes, Option, Result, ◌==◌, nat_lt}
use Rattle.std.specs.List.{All}
use Rattle.dial.specs.declared.arc.Arc.{Arc}
use Rattle.plane.specs.declared.plane_box.PlaneBox.{PlaneBox}
use Rattle.leaves.specs.Cones.{InRange}
use Rattle.leaves.specs.Rings.{IsBeacon}
use Rattle.leaves.specs.declared.arc.ArcReading.{ArcReading}
use Rattle.leaves.specs.declared.cone.Cone.{Cone}
use Rattle.leaves.specs.declared.plane_reading.PlaneReading.{PlaneReading}
use Rattle.leaves.specs.declared.plane_reading.PlaneReading.TheVariants.{Ring as OfRing, Cone as OfCone}
use Rattle.leaves.specs.declared.ring.Ring.{Ring}
use Rattle.sheet.specs.declared.grain.Grain.{Grain}
use Rattle.readings.specs.Lines.{The, Numbers, Keyed, Else}
use Rattle.readings.specs.declared.kind.Kind.{Kind}
use Rattle.readings.specs.declared.kind.Kind.TheVariants.{Plane, Dial}

-- the name of a kind of sheet
abbrev pub name : Kind → List ℕ
name Plane = codes "plane"
name Dial = codes "dial"

-- the numbers that a piece or a reading is written by
abbrev pub box_numbers : PlaneBox → List ℤ
box_numbers b = pos b.columns.low ∷ pos b.rows.low ∷ pos b.columns.high ∷ pos b.rows.high ∷ []

abbrev pub arc_numbers : Arc → List ℤ
arc_numbers a = pos a.start ∷ pos a.len ∷ []

abbrev pub ring_numbers : Ring → List ℤ
ring_numbers r = r.beacon.x ∷ r.beacon.y ∷ pos r.inner ∷ pos r.outer ∷ []

abbrev pub cone_numbers : Cone → List ℤ
cone_numbers c = c.beacon.x ∷ c.beacon.y ∷ c.u.x ∷ c.u.y ∷ c.v.x ∷ c.v.y ∷ []

-- sheet=plane or sheet=dial
abbrev pub SheetValue : List ℕ → Result Kind ℕ → Type 0
SheetValue value = The (λ k. value ≡ name k) (λ e. e ≡ 16)

abbrev pub SheetLine : List ℕ → Bool → Result Kind ℕ → Type 0
SheetLine = Keyed (codes "sheet=") SheetValue

-- liars=q, from 0 to 65535: beyond that it is malformed
abbrev pub LiarsValue : List ℤ → Result ℕ ℕ → Type 0
LiarsValue zs = The (λ q. (zs ≡ pos q ∷ []) × (q ≤ 65535)) (λ e. e ≡ 16)

abbrev pub LiarsLine : List ℕ → Bool → Result ℕ ℕ → Type 0
LiarsLine = Keyed (codes "liars=") (Numbers 1 LiarsValue)

-- grain=g, refused with 2 where there is no such grain
abbrev pub GrainValue : List ℤ → Result Grain ℕ → Type 0
GrainValue zs = The (λ g. zs ≡ pos g.size ∷ []) (λ e. e ≡ 2)

abbrev pub GrainLine : List ℕ → Bool → Result Grain ℕ → Type 0
GrainLine = Keyed (codes "grain=") (Numbers 1 GrainValue)

-- numbers that are not negative, each of 16 bits, refused with 1 where one is not
abbrev pub Naturals : List ℤ → Result (List ℕ) ℕ → Type 0
Naturals zs = The (λ ns. (zs ≡ map pos ns) × All (λ n. n ≤ 65535) ns) (λ e. e ≡ 1)

-- start= with the numbers of a piece, refused with 1 where they are no piece's
abbrev pub BoxValue : List ℕ → Result PlaneBox ℕ → Type 0
BoxValue = Numbers 4 (λ zs. The (λ b. zs ≡ box_numbers b) (λ e. e ≡ 1))

abbrev pub ArcValue : List ℕ → Result Arc ℕ → Type 0
ArcValue = Numbers 2 (λ zs. The (λ a. zs ≡ arc_numbers a) (λ e. e ≡ 1))

abbrev pub StartLine : {P : Type 0} → (List ℕ → Result P ℕ → Type 0) → List ℕ → Bool → Result P ℕ → Type 0
StartLine V = Keyed (codes "start=") V

-- the first two of some numbers are a beacon's
abbrev pub Beacon : List ℤ → Type 0
Beacon zs = (bx : ℤ) × (by : ℤ) × (rest : List ℤ) × (zs ≡ bx ∷ by ∷ rest) × IsBeacon bx by

-- the numbers are a beacon's and two directions', each within its range
abbrev pub Directed : List ℤ → Type 0
Directed zs = (bx : ℤ) × (by : ℤ) × (ux : ℤ) × (uy : ℤ) × (vx : ℤ) × (vy : ℤ) × (zs ≡ bx ∷ by ∷ ux ∷ uy ∷ vx ∷ vy ∷ []) × InRange bx by ux uy vx vy

-- the reading is a ring of these numbers; the reading is a cone of these numbers
abbrev pub IsRing : List ℤ → PlaneReading → Type 0
IsRing zs (OfRing r) = zs ≡ ring_numbers r
IsRing zs (OfCone c) = ⊥

abbrev pub IsCone : List ℤ → PlaneReading → Type 0
IsCone zs (OfRing r) = ⊥
IsCone zs (OfCone c) = zs ≡ cone_numbers c

-- ring=bx,by,a,b: refused with 3 where the beacon is beyond its range, else with 4 where they are no ring's
abbrev pub RingValue : List ℤ → Result PlaneReading ℕ → Type 0
RingValue zs = The (IsRing zs) (λ e. ((Beacon zs → ⊥) × (e ≡ 3)) ⊎ (Beacon zs × (e ≡ 4)))

-- cone=bx,by,ux,uy,vx,vy: refused with 3 where a number is beyond its range, else with 5 where they are no cone's
abbrev pub ConeValue : List ℤ → Result PlaneReading ℕ → Type 0
ConeValue zs = The (IsCone zs) (λ e. ((Directed zs → ⊥) × (e ≡ 3)) ⊎ (Directed zs × (e ≡ 5)))

-- a reading of the plane is a ring or a cone
abbrev pub PlaneLine : List ℕ → Bool → Result PlaneReading ℕ → Type 0
PlaneLine = Else (Keyed (codes "ring=") (Numbers 4 RingValue)) (Keyed (codes "cone=") (Numbers 6 ConeValue))

-- a reading of the dial: arc=s,n, refused with 1 where they are no arc's
abbrev pub BearingValue : List ℕ → Result ArcReading ℕ → Type 0
BearingValue = Numbers 2 (λ zs. The (λ a. zs ≡ arc_numbers a.arc) (λ e. e ≡ 1))

abbrev pub DialLine : List ℕ → Bool → Result ArcReading ℕ → Type 0
DialLine = Keyed (codes "arc=") BearingValue

-- end=n after n readings, refused with 17 where it tells another number
abbrev pub EndValue : {R : Type 0} → ℕ → List ℤ → Result (Option R) ℕ → Type 0
EndValue n zs = The (λ o. (o ≡ None) × (zs ≡ pos n ∷ [])) (λ e. e ≡ 17)

-- it is not due before the first reading
abbrev pub EndLine : {R : Type 0} → ℕ → List ℕ → Bool → Result (Option R) ℕ → Type 0
EndLine n text ended r = cond (n == 0) (r ≡ Err 15) (Keyed (codes "end=") (Numbers 1 (EndValue n)) text ended r)

-- The seventeenth reading is refused with 6, or with a smaller number if it has one. A key that is not due stays so.
abbrev pub full : ℕ → ℕ
full e = cond (e == 15) 15 (min e 6)

-- a reading that comes after n others
abbrev pub entering : {R : Type 0} → ℕ → Result R ℕ → Result (Option R) ℕ
entering n (Ok x) = elim (nat_lt n 16) [ true ↦ Ok (Some x) | false ↦ Err 6 ]
entering n (Err e) = elim (nat_lt n 16) [ true ↦ Err e | false ↦ Err (full e) ]

abbrev pub EnteringLine : {R : Type 0} → (List ℕ → Bool → Result R ℕ → Type 0) → ℕ → List ℕ → Bool → Result (Option R) ℕ → Type 0
EnteringLine {R} J n text ended r = (q : Result R ℕ) × J text ended q × (r ≡ entering n q)

-- the line after n readings: one more, or the end
abbrev pub NextLine : {R : Type 0} → (List ℕ → Bool → Result R ℕ → Type 0) → ℕ → List ℕ → Bool → Result (Option R) ℕ → Type 0
NextLine J n = Else (EnteringLine J n) (EndLine n)
