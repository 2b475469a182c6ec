-- Each sort of lines: what is written is read, and nothing else is.
use Rattle.std.proofs.Common.{◌≡◌, ℕ, suc, ◌≤◌, Bool, true, false, ◌⊎◌, List, [], ◌∷◌, ◌++◌, length, ℤ, pos, Ok, Err, codes, decimal, Result, sym, refl, ap, ◌∙◌, subst, inl, inr, arith, w32, SFits}
use Rattle.std.specs.List.{All}
use Rattle.std.proofs.lemmas.List.Elements.{All-append, All-from_recursion}
use Rattle.std.proofs.lemmas.List.{length-append}
use Rattle.dial.specs.Made.{same_arc}
use Rattle.dial.specs.declared.arc.Arc.{Arc}
use Rattle.plane.specs.Made.{same_box}
use Rattle.leaves.specs.declared.arc.ArcReading.{ArcReading}
use Rattle.leaves.specs.declared.plane_reading.PlaneReading.{PlaneReading}
use Rattle.leaves.specs.declared.plane_reading.PlaneReading.TheVariants.{Ring as OfRing, Cone as OfCone}
use Rattle.numerals.specs.Lists.{Without, listed}
use Rattle.readings.specs.Lines.{The, Numbers, Keyed}
use Rattle.readings.specs.Sorts.{name, box_numbers, arc_numbers, ring_numbers, cone_numbers, SheetValue, SheetLine, LiarsLine, GrainLine, BoxValue, ArcValue, StartLine, IsRing, IsCone, Beacon, Directed, RingValue, ConeValue, PlaneLine, DialLine}
use Rattle.readings.specs.declared.kind.Kind.{Kind}
use Rattle.readings.specs.declared.kind.Kind.TheVariants.{Plane, Dial}
use Rattle.readings.proofs.Once.{One, Sure, the_one, numbers_one, keyed_one, else_one}
use Rattle.readings.proofs.Same.{same_grain, same_ring, same_cone}
use Rattle.readings.proofs.Texts.{without_end, listed_without, listed_short, small_natural, small_signed, smaller_signed, natural_fits}

-- A sort of lines, and the text of each thing that it may mean, where that is good.
pub record Writes {X : Type 0} (J : List ℕ → Bool → Result X ℕ → Type 0) (Good : X → Type 0) (text : X → List ℕ) : Type 0 where
  pub sure : Sure J
  pub writes : (x : X) → Good x → J (text x) true (Ok x)
  pub reads : (t : List ℕ) (ended : Bool) (x : X) → J t ended (Ok x) → (ended ≡ true) × (t ≡ text x) × Good x
  pub plain : (x : X) → Good x → Without 10 (text x)
  pub short : (x : X) → Good x → length (text x) ≤ 90

-- nothing is asked
abbrev pub Any : {X : Type 0} → X → Type 0
Any x = Unit {0}

the_reads : {X : Type 0} (W : X → Type 0) (E : ℕ → Type 0) (x : X) → The W E (Ok x) → W x
the_reads W E x (inl (y, h, q)) = let z : y ≡ x = cc in subst W z h
the_reads W E x (inr (n, h)) = let q = h.2 in cc

keyed_reads : {X : Type 0} (key : List ℕ) (V : List ℕ → Result X ℕ → Type 0) (t : List ℕ) (ended : Bool) (x : X) → Keyed key V t ended (Ok x) → (ended ≡ true) × ((v : List ℕ) × (t ≡ key ++ v) × V v (Ok x))
keyed_reads key V t ended x (inl (n, q)) = cc
keyed_reads key V t true x (inr (v, e, h)) = (refl, (v, e, h))
keyed_reads key V t false x (inr (v, e, q)) = cc

-- a key, and numbers
module _ {X : Type 0} (key : List ℕ) (n : ℕ) (W : List ℤ → X → Type 0) (E : List ℤ → ℕ → Type 0) (Good : X → Type 0) (nums : X → List ℤ) where
  reads_numbers : (v : List ℕ) (x : X) → ((zs : List ℤ) → W zs x → (zs ≡ nums x) × Good x) → Numbers n (λ zs. The (W zs) (E zs)) v (Ok x) → (v ≡ listed (nums x)) × Good x
  reads_numbers v x from (inl (zs, l, h)) = let k = from zs (the_reads (W zs) (E zs) x h) in (l.written ∙ ap listed k.0, k.1)
  reads_numbers v x from (inr (none, q)) = cc

  pub record Numbered : Type 0 where
    pub to : (x : X) → Good x → W (nums x) x
    pub from : (zs : List ℤ) (x : X) → W zs x → (zs ≡ nums x) × Good x
    pub same : (x y : X) → Good x → Good y → nums x ≡ nums y → x ≡ y
    pub told : (zs : List ℤ) → One (E zs)
    pub count : (x : X) → Good x → length (nums x) ≡ suc n
    pub fits : (x : X) → Good x → All (SFits w32) (nums x)
    pub free : Without 10 key
    pub small : length key ≤ 6
    pub few : n ≤ 5

module _ {X : Type 0} {key : List ℕ} {n : ℕ} {W : List ℤ → X → Type 0} {E : List ℤ → ℕ → Type 0} {Good : X → Type 0} {nums : X → List ℤ} (m : Numbered key n W E Good nums) where
  one_of : (zs : List ℤ) → One (W zs)
  one_of zs x y h k = let a = m.from zs x h in let b = m.from zs y k in m.same x y a.1 b.1 (sym a.0 ∙ b.0)

  numbered_reads : (t : List ℕ) (ended : Bool) (x : X) → Keyed key (Numbers (suc n) (λ zs. The (W zs) (E zs))) t ended (Ok x) → (ended ≡ true) × (t ≡ key ++ listed (nums x)) × Good x
  numbered_reads t ended x h =
      let r = keyed_reads key (Numbers (suc n) (λ zs. The (W zs) (E zs))) t ended x h in
      let k = reads_numbers key (suc n) W E Good nums r.1.0 x (λ zs. m.from zs x) r.1.2 in
      (r.0, r.1.1 ∙ ap (λ v. key ++ v) k.0, k.1)

  pub number_sort : Writes (Keyed key (Numbers (suc n) (λ zs. The (W zs) (E zs)))) Good (λ x. key ++ listed (nums x))
  number_sort =
      record {
        sure = keyed_one key _ (numbers_one n _ (λ zs. the_one (W zs) (E zs) (one_of zs) (m.told zs)));
        writes = λ x g. inr (listed (nums x), refl, inl (nums x, record { count = m.count x g; fit = m.fits x g; written = refl }, inl (x, m.to x g, refl)));
        reads = numbered_reads;
        plain = λ x g. All-append (λ b. b ≡ 10 → ⊥) key (listed (nums x)) m.free (listed_without (nums x) (m.fits x g));
        short = λ x g. omega (arith, length-append key (listed (nums x)), m.small, m.few, m.count x g, listed_short (nums x) (m.fits x g));
      }

same_refusal : (k : ℕ) → One (λ (e : ℕ). e ≡ k)
same_refusal k e f p q = p ∙ sym q

pub liars_sort : Writes LiarsLine (λ q. q ≤ 65535) (λ q. codes "liars=" ++ decimal q)
liars_sort =
    number_sort {key = codes "liars="} {n = 0} {W = λ zs q. (zs ≡ pos q ∷ []) × (q ≤ 65535)} {E = λ zs e. e ≡ 16} {Good = λ q. q ≤ 65535} {nums = λ q. pos q ∷ []}
    (record {
      to = λ q g. (refl, g);
      from = λ zs q h. h;
      same = λ p q g h e. (let z : p ≡ q = cc in z);
      told = λ zs. same_refusal 16;
      count = λ q g. refl;
      fits = natural_fits;
      free = without_end (codes "liars=") refl;
      small = omega arith;
      few = omega arith;
    })

pub grain_sort : Writes GrainLine Any (λ g. codes "grain=" ++ decimal g.size)
grain_sort =
    number_sort {key = codes "grain="} {n = 0} {W = λ zs g. zs ≡ pos g.size ∷ []} {E = λ zs e. e ≡ 2} {Good = Any} {nums = λ g. pos g.size ∷ []}
    (record {
      to = λ q g. refl;
      from = λ zs q h. (h, tt);
      same = λ p q g h e. same_grain p q (let z : p.size ≡ q.size = cc in z);
      told = λ zs. same_refusal 2;
      count = λ q g. refl;
      fits = λ q g. natural_fits q.size (omega (arith, q.most));
      free = without_end (codes "grain=") refl;
      small = omega arith;
      few = omega arith;
    })

pub box_sort : Writes (StartLine BoxValue) Any (λ b. codes "start=" ++ listed (box_numbers b))
box_sort =
    number_sort {key = codes "start="} {n = 3} {W = λ zs b. zs ≡ box_numbers b} {E = λ zs e. e ≡ 1} {Good = Any} {nums = box_numbers}
    (record {
      to = λ q g. refl;
      from = λ zs q h. (h, tt);
      same = λ p q g h e. same_box p q ((let z : p.columns.low ≡ q.columns.low = cc in z), (let z : p.rows.low ≡ q.rows.low = cc in z), (let z : p.columns.high ≡ q.columns.high = cc in z), (let z : p.rows.high ≡ q.rows.high = cc in z));
      told = λ zs. same_refusal 1;
      count = λ q g. refl;
      fits = λ q g. All-from_recursion (SFits w32) (box_numbers q) (
        small_natural q.columns.low (omega (arith, q.columns.ordered, q.columns.most)),
        (small_natural q.rows.low (omega (arith, q.rows.ordered, q.rows.most)), (small_natural q.columns.high (omega (arith, q.columns.most)), (small_natural q.rows.high (omega (arith, q.rows.most)), tt))),
      );
      free = without_end (codes "start=") refl;
      small = omega arith;
      few = omega arith;
    })

arc_fits : (a : Arc) → All (SFits w32) (arc_numbers a)
arc_fits a = All-from_recursion (SFits w32) (arc_numbers a) (small_natural a.start (omega (arith, a.placed)), (small_natural a.len (omega (arith, a.most)), tt))

arc_same : (a b : Arc) → arc_numbers a ≡ arc_numbers b → a ≡ b
arc_same a b e = same_arc a b (let z : a.start ≡ b.start = cc in z) (let z : a.len ≡ b.len = cc in z)

pub arc_sort : Writes (StartLine ArcValue) Any (λ a. codes "start=" ++ listed (arc_numbers a))
arc_sort =
    number_sort {key = codes "start="} {n = 1} {W = λ zs a. zs ≡ arc_numbers a} {E = λ zs e. e ≡ 1} {Good = Any} {nums = arc_numbers}
    (record {
      to = λ q g. refl;
      from = λ zs q h. (h, tt);
      same = λ p q g h e. arc_same p q e;
      told = λ zs. same_refusal 1;
      count = λ q g. refl;
      fits = λ q g. arc_fits q;
      free = without_end (codes "start=") refl;
      small = omega arith;
      few = omega arith;
    })

bearing_same : (a b : ArcReading) → a.arc ≡ b.arc → a ≡ b
bearing_same a b e = λ i. record { arc = e i }

pub dial_sort : Writes DialLine Any (λ a. codes "arc=" ++ listed (arc_numbers a.arc))
dial_sort =
    number_sort {key = codes "arc="} {n = 1} {W = λ zs a. zs ≡ arc_numbers a.arc} {E = λ zs e. e ≡ 1} {Good = Any} {nums = λ a. arc_numbers a.arc}
    (record {
      to = λ q g. refl;
      from = λ zs q h. (h, tt);
      same = λ p q g h e. bearing_same p q (arc_same p.arc q.arc e);
      told = λ zs. same_refusal 1;
      count = λ q g. refl;
      fits = λ q g. arc_fits q.arc;
      free = without_end (codes "arc=") refl;
      small = omega arith;
      few = omega arith;
    })

-- rings, and cones
abbrev reading_numbers : PlaneReading → List ℤ
reading_numbers (OfRing r) = ring_numbers r
reading_numbers (OfCone c) = cone_numbers c

abbrev RingLike : PlaneReading → Type 0
RingLike (OfRing r) = Unit {0}
RingLike (OfCone c) = ⊥

abbrev ConeLike : PlaneReading → Type 0
ConeLike (OfRing r) = ⊥
ConeLike (OfCone c) = Unit {0}

ring_to : (p : PlaneReading) → RingLike p → IsRing (reading_numbers p) p
ring_to (OfRing r) g = refl
ring_to (OfCone c) g = g

ring_from : (zs : List ℤ) (p : PlaneReading) → IsRing zs p → (zs ≡ reading_numbers p) × RingLike p
ring_from zs (OfRing r) h = (h, tt)
ring_from zs (OfCone c) h = absurd h

ring_same : (p q : PlaneReading) → RingLike p → RingLike q → reading_numbers p ≡ reading_numbers q → p ≡ q
ring_same (OfRing r) (OfRing s) g h e = ap OfRing (same_ring r s e)
ring_same (OfRing r) (OfCone c) g h e = absurd h
ring_same (OfCone c) q g h e = absurd g

ring_count : (p : PlaneReading) → RingLike p → length (reading_numbers p) ≡ 4
ring_count (OfRing r) g = refl
ring_count (OfCone c) g = absurd g

ring_fits : (p : PlaneReading) → RingLike p → All (SFits w32) (reading_numbers p)
ring_fits (OfRing r) g = All-from_recursion (SFits w32) (ring_numbers r) (
  small_signed r.beacon.x r.beacon.x_least r.beacon.x_most,
  (small_signed r.beacon.y r.beacon.y_least r.beacon.y_most, (small_natural r.inner (omega (arith, r.ordered, r.most)), (small_natural r.outer (omega (arith, r.most)), tt))),
)
ring_fits (OfCone c) g = absurd g

-- two refusals, told apart by a fact
told_apart : (P : Type 0) (j k : ℕ) → One (λ (e : ℕ). ((P → ⊥) × (e ≡ j)) ⊎ (P × (e ≡ k)))
told_apart P j k e f (inl (n, p)) (inl (m, q)) = p ∙ sym q
told_apart P j k e f (inl (n, p)) (inr (m, q)) = absurd (n m)
told_apart P j k e f (inr (n, p)) (inl (m, q)) = absurd (m n)
told_apart P j k e f (inr (n, p)) (inr (m, q)) = p ∙ sym q

ring_sort : Writes (Keyed (codes "ring=") (Numbers 4 RingValue)) RingLike (λ p. codes "ring=" ++ listed (reading_numbers p))
ring_sort =
    number_sort {key = codes "ring="} {n = 3} {W = IsRing} {E = λ zs e. ((Beacon zs → ⊥) × (e ≡ 3)) ⊎ (Beacon zs × (e ≡ 4))} {Good = RingLike} {nums = reading_numbers}
    (record {
      to = ring_to;
      from = ring_from;
      same = ring_same;
      told = λ zs. told_apart (Beacon zs) 3 4;
      count = ring_count;
      fits = ring_fits;
      free = without_end (codes "ring=") refl;
      small = omega arith;
      few = omega arith;
    })

cone_to : (p : PlaneReading) → ConeLike p → IsCone (reading_numbers p) p
cone_to (OfRing r) g = g
cone_to (OfCone c) g = refl

cone_from : (zs : List ℤ) (p : PlaneReading) → IsCone zs p → (zs ≡ reading_numbers p) × ConeLike p
cone_from zs (OfRing r) h = absurd h
cone_from zs (OfCone c) h = (h, tt)

cone_same : (p q : PlaneReading) → ConeLike p → ConeLike q → reading_numbers p ≡ reading_numbers q → p ≡ q
cone_same (OfCone c) (OfCone d) g h e = ap OfCone (same_cone c d e)
cone_same (OfCone c) (OfRing s) g h e = absurd h
cone_same (OfRing r) q g h e = absurd g

cone_count : (p : PlaneReading) → ConeLike p → length (reading_numbers p) ≡ 6
cone_count (OfRing r) g = absurd g
cone_count (OfCone c) g = refl

cone_fits : (p : PlaneReading) → ConeLike p → All (SFits w32) (reading_numbers p)
cone_fits (OfRing r) g = absurd g
cone_fits (OfCone c) g = All-from_recursion (SFits w32) (cone_numbers c) (
  small_signed c.beacon.x c.beacon.x_least c.beacon.x_most,
  (
    small_signed c.beacon.y c.beacon.y_least c.beacon.y_most,
    (
      smaller_signed c.u.x c.u.x_least c.u.x_most,
      (smaller_signed c.u.y c.u.y_least c.u.y_most, (smaller_signed c.v.x c.v.x_least c.v.x_most, (smaller_signed c.v.y c.v.y_least c.v.y_most, tt))),
    ),
  ),
)

cone_sort : Writes (Keyed (codes "cone=") (Numbers 6 ConeValue)) ConeLike (λ p. codes "cone=" ++ listed (reading_numbers p))
cone_sort =
    number_sort {key = codes "cone="} {n = 5} {W = IsCone} {E = λ zs e. ((Directed zs → ⊥) × (e ≡ 3)) ⊎ (Directed zs × (e ≡ 5))} {Good = ConeLike} {nums = reading_numbers}
    (record {
      to = cone_to;
      from = cone_from;
      same = cone_same;
      told = λ zs. told_apart (Directed zs) 3 5;
      count = cone_count;
      fits = cone_fits;
      free = without_end (codes "cone=") refl;
      small = omega arith;
      few = omega arith;
    })

-- a reading of the plane
abbrev pub plane_text : PlaneReading → List ℕ
plane_text (OfRing r) = codes "ring=" ++ listed (ring_numbers r)
plane_text (OfCone c) = codes "cone=" ++ listed (cone_numbers c)

-- a line that begins with another letter has another key
pub other_key : {X : Type 0} (a b : ℕ) (key rest : List ℕ) (V : List ℕ → Result X ℕ → Type 0) (ended : Bool) → (a ≡ b → ⊥) → Keyed (a ∷ key) V (b ∷ rest) ended (Err 15)
other_key a b key rest V ended n = inl (λ v e. n (let z : a ≡ b = cc in z), refl)

plane_writes : (p : PlaneReading) → Any p → PlaneLine (plane_text p) true (Ok p)
plane_writes (OfRing r) g = inl (ring_sort.writes (OfRing r) tt, λ q. cc)
plane_writes (OfCone c) g = inr (other_key 114 99 (codes "ing=") _ (Numbers 4 RingValue) true (λ e. omega (arith, e)), cone_sort.writes (OfCone c) tt)

plane_reads : (t : List ℕ) (ended : Bool) (p : PlaneReading) → PlaneLine t ended (Ok p) → (ended ≡ true) × (t ≡ plane_text p) × Any p
plane_reads t ended (OfRing r) (inl (j, n)) = let h = ring_sort.reads t ended (OfRing r) j in (h.0, h.1, tt)
plane_reads t ended (OfCone c) (inl (j, n)) = absurd (ring_sort.reads t ended (OfCone c) j).2
plane_reads t ended (OfRing r) (inr (j, k)) = absurd (cone_sort.reads t ended (OfRing r) k).2
plane_reads t ended (OfCone c) (inr (j, k)) = let h = cone_sort.reads t ended (OfCone c) k in (h.0, h.1, tt)

plane_plain : (p : PlaneReading) → Any p → Without 10 (plane_text p)
plane_plain (OfRing r) g = ring_sort.plain (OfRing r) tt
plane_plain (OfCone c) g = cone_sort.plain (OfCone c) tt

plane_short : (p : PlaneReading) → Any p → length (plane_text p) ≤ 90
plane_short (OfRing r) g = ring_sort.short (OfRing r) tt
plane_short (OfCone c) g = cone_sort.short (OfCone c) tt

pub plane_sort : Writes PlaneLine Any plane_text
plane_sort = record { sure = else_one _ _ ring_sort.sure cone_sort.sure; writes = plane_writes; reads = plane_reads; plain = plane_plain; short = plane_short }

-- the sheet
one_name : (value : List ℕ) → One (λ (k : Kind). value ≡ name k)
one_name value Plane Plane p q = refl
one_name value Dial Dial p q = refl
one_name value Plane Dial p q = cc
one_name value Dial Plane p q = cc

sheet_reads : (t : List ℕ) (ended : Bool) (k : Kind) → SheetLine t ended (Ok k) → (ended ≡ true) × (t ≡ codes "sheet=" ++ name k) × Any k
sheet_reads t ended k h =
    let r = keyed_reads (codes "sheet=") SheetValue t ended k h in
    (r.0, r.1.1 ∙ ap (λ v. codes "sheet=" ++ v) (the_reads (λ k. r.1.0 ≡ name k) (λ e. e ≡ 16) k r.1.2), tt)

sheet_plain : (k : Kind) → Any k → Without 10 (codes "sheet=" ++ name k)
sheet_plain Plane g = without_end (codes "sheet=plane") refl
sheet_plain Dial g = without_end (codes "sheet=dial") refl

sheet_short : (k : Kind) → Any k → length (codes "sheet=" ++ name k) ≤ 90
sheet_short Plane g = omega arith
sheet_short Dial g = omega arith

pub sheet_sort : Writes SheetLine Any (λ k. codes "sheet=" ++ name k)
sheet_sort =
    record {
      sure = keyed_one (codes "sheet=") SheetValue (λ value. the_one (λ k. value ≡ name k) (λ e. e ≡ 16) (one_name value) (same_refusal 16));
      writes = λ k g. inr (name k, refl, inl (k, refl, refl));
      reads = sheet_reads;
      plain = sheet_plain;
      short = sheet_short;
    }
