-- A file comes to one thing only, and to a survey just where it is written of it.
use Rattle.std.proofs.Common.{◌≡◌, ℕ, ◌+◌, ◌*◌, ◌<◌, ◌≤◌, Bool, true, false, ltb, ◌⊎◌, List, [], ◌∷◌, ◌++◌, length, pos, Ok, Err, codes, decimal, Result, sym, refl, ap, ◌∙◌, subst, inl, inr, zero-add, arith}
use Rattle.std.specs.List.{flat_map}
use Rattle.std.proofs.lemmas.List.{append_assoc, length-append}
use Rattle.std.proofs.lemmas.Bool.{ltb-true}
use Rattle.dial.specs.declared.arc.Arc.{Arc}
use Rattle.plane.specs.declared.plane_box.PlaneBox.{PlaneBox}
use Rattle.leaves.specs.declared.arc.ArcReading.{ArcReading}
use Rattle.leaves.specs.declared.plane_reading.PlaneReading.{PlaneReading}
use Rattle.leaves.specs.declared.plane_reading.PlaneReading.TheVariants.{Ring as OfRing, Cone as OfCone}
use Rattle.numerals.specs.Lists.{listed}
use Rattle.sheet.specs.declared.grain.Grain.{Grain}
use Rattle.readings.specs.Files.{Meant, Survey, on_plane, on_dial, Sensible, line, lines, ring_line, arc_line, HasForm, Rest, judged, Body, told, Bodies, Lines, Comes, Exact}
use Rattle.readings.specs.Lines.{Begins, Then, Numbers}
use Rattle.readings.specs.Sorts.{name, arc_numbers, SheetLine, LiarsLine, GrainLine, StartLine, BoxValue, ArcValue, RingValue, ConeValue, BearingValue, PlaneLine, DialLine}
use Rattle.readings.specs.declared.kind.Kind.{Kind}
use Rattle.readings.specs.declared.kind.Kind.TheVariants.{Plane, Dial}
use Rattle.readings.proofs.Bodies.{few_enough}
use Rattle.readings.proofs.Chains.{passed}
use Rattle.readings.proofs.Nexts.{tail_text, rest_writes, rest_reads}
use Rattle.readings.proofs.Once.{One, Sure, then_one, rest_one}
use Rattle.readings.proofs.Texts.{listed_short, natural_fits}
use Rattle.readings.proofs.Writes.{Writes, Any, sheet_sort, liars_sort, grain_sort, box_sort, arc_sort, plane_sort, dial_sort, plane_text, other_key}

-- one outcome
body_one : {P R : Type 0} (V : List ℕ → Result P ℕ → Type 0) (J : List ℕ → Bool → Result R ℕ → Type 0) → Sure (StartLine V) → Sure J → (q : ℕ) (g : Grain) (rest : List ℕ) → One (Body V J q g rest)
body_one {P} {R} V J v j q g =
    then_one (StartLine V) 4 (λ p rest r. (s : Result (List R) (ℕ × ℕ)) × Rest J 0 rest s × (r ≡ judged q g p s)) v
    (λ p rest r s (x, h, e) (y, k, f). e ∙ ap (judged q g p) (rest_one J j 0 rest x y h k) ∙ sym f)

bodies_one : (k : Kind) (q : ℕ) (g : Grain) (rest : List ℕ) → One (Bodies k q g rest)
bodies_one Plane q g rest r s (x, h, e) (y, k, f) = e ∙ ap (told on_plane) (body_one BoxValue PlaneLine box_sort.sure plane_sort.sure q g rest x y h k) ∙ sym f
bodies_one Dial q g rest r s (x, h, e) (y, k, f) = e ∙ ap (told on_dial) (body_one ArcValue DialLine arc_sort.sure dial_sort.sure q g rest x y h k) ∙ sym f

lines_one : (file : List ℕ) → One (Lines file)
lines_one =
    then_one SheetLine 1 (λ k. Then LiarsLine 2 (λ q. Then GrainLine 3 (λ g. Bodies k q g))) sheet_sort.sure
    (λ k. then_one LiarsLine 2 (λ q. Then GrainLine 3 (λ g. Bodies k q g)) liars_sort.sure
    (λ q. then_one GrainLine 3 (λ g. Bodies k q g) grain_sort.sure (λ g. bodies_one k q g)))

pub comes_one : (file : List ℕ) (r s : Result Survey (ℕ × ℕ)) → Comes file r → Comes file s → r ≡ s
comes_one file r s (inl (h, p)) (inl (k, q)) = p ∙ sym q
comes_one file r s (inl (h, p)) (inr (k, q)) = absurd (omega arith)
comes_one file r s (inr (h, p)) (inl (k, q)) = absurd (omega arith)
comes_one file r s (inr (h, p)) (inr (k, q)) = lines_one file r s p q

-- a line in front of what follows
line_joined : (key value after : List ℕ) → line key value ++ after ≡ (key ++ value) ++ 10 ∷ after
line_joined key value after =
    append_assoc key (value ++ 10 ∷ []) after ∙ ap (λ t. key ++ t) (append_assoc value (10 ∷ []) after) ∙ sym (append_assoc key value (10 ∷ after))

-- a written line begins what is written
module _ {X : Type 0} {J : List ℕ → Bool → Result X ℕ → Type 0} {Good : X → Type 0} (key : List ℕ) (value : X → List ℕ) (w : Writes J Good (λ x. key ++ value x)) where
  line_begins : (x : X) → Good x → (after : List ℕ) → Begins (line key (value x) ++ after) (key ++ value x) true after
  line_begins x g after = record { line = w.plain x g; joined = line_joined key (value x) after }

  writes_line : {Y : Type 0} (k : ℕ) (K : X → List ℕ → Result Y (ℕ × ℕ) → Type 0) (x : X) → Good x → (after : List ℕ) (r : Result Y (ℕ × ℕ)) → K x after r → Then J k K (line key (value x) ++ after) r
  writes_line k K x g after r h = passed J k K (line key (value x) ++ after) (key ++ value x) true after x r (line_begins x g after) (w.writes x g) h

  -- the line that stands in front, where all comes to something
  reads_line : {Y : Type 0} (k : ℕ) (K : X → List ℕ → Result Y (ℕ × ℕ) → Type 0) (rest : List ℕ) (y : Y) → Then J k K rest (Ok y) → (x : X) × (after : List ℕ) × (rest ≡ line key (value x) ++ after) × Good x × K x after (Ok y)
  reads_line {Y} k K rest y t = by t.comes
    where
      by : ((e : ℕ) × J t.text t.ended (Err e) × (◌≡◌ {A = Result Y (ℕ × ℕ)} (Ok y) (Err (e, k)))) ⊎ ((x : X) × J t.text t.ended (Ok x) × K x t.after (Ok y)) → (x : X) × (after : List ℕ) × (rest ≡ line key (value x) ++ after) × Good x × K x after (Ok y)
      by (inl (e, j, q)) = cc
      by (inr (x, j, h)) =
          let m = w.reads t.text t.ended x j in
          let b : Begins rest (key ++ value x) true t.after = subst (λ (c : Bool). Begins rest (key ++ value x) c t.after) m.0 (subst (λ (u : List ℕ). Begins rest u t.ended t.after) m.1 t.begins) in
          (x, t.after, b.joined ∙ sym (line_joined key (value x) t.after), m.2, h)

-- readings as lines
joined_same : {R : Type 0} (f g : R → List ℕ) → ((x : R) → f x ≡ g x) → (rs : List R) → flat_map f rs ≡ flat_map g rs
joined_same f g e [] = refl
joined_same f g e (x ∷ rs) = ap (λ t. t ++ flat_map f rs) (e x) ∙ ap (λ t. g x ++ t) (joined_same f g e rs)

module _ {P R : Type 0} {V : List ℕ → Result P ℕ → Type 0} {J : List ℕ → Bool → Result R ℕ → Type 0} {start : P → List ℕ} {text : R → List ℕ} (v : Writes (StartLine V) Any (λ p. codes "start=" ++ start p)) (w : Writes J Any text) (no_end : (u : List ℕ) → J (codes "end=" ++ u) true (Err 15)) (reading : R → List ℕ) (spelled : (x : R) → reading x ≡ text x ++ 10 ∷ []) where
  -- the readings and their number, as they are written
  abbrev tail : List R → List ℕ
  tail rs = flat_map reading rs ++ line (codes "end=") (decimal (length rs))

  tail_is : (rs : List R) → tail rs ≡ tail_text w no_end (length rs) rs
  tail_is rs =
      ap (λ t. t ++ line (codes "end=") (decimal (length rs))) (joined_same reading (λ x. text x ++ 10 ∷ []) spelled rs)

  abbrev body_text : P → List R → List ℕ
  body_text p rs = line (codes "start=") (start p) ++ tail rs

  body_writes : (q : ℕ) (g : Grain) (p : P) (rs : List R) → q < length rs → length rs ≤ 16 → Body V J q g (body_text p rs) (Ok (record { liars = q; grain = g; start = p; readings = rs }))
  body_writes q g p rs h l =
      writes_line (codes "start=") start v 4 (λ p rest r. (s : Result (List R) (ℕ × ℕ)) × Rest J 0 rest s × (r ≡ judged q g p s)) p tt (tail rs) (Ok (record { liars = q; grain = g; start = p; readings = rs }))
      (Ok rs, subst (λ (t : List ℕ). Rest J 0 t (Ok rs)) (sym (tail_is rs)) (rest_writes w no_end 0 (length rs) rs (sym (zero-add (length rs))) (omega arith) l), sym (few_enough q g p rs h))

  judged_by : (b : Bool) (q : ℕ) (g : Grain) (p : P) (rs : List R) (m : Meant P R) → ltb q (length rs) ≡ b → ◌≡◌ {A = Result (Meant P R) (ℕ × ℕ)} (Ok m) (elim b [ true ↦ Ok (record { liars = q; grain = g; start = p; readings = rs }) | false ↦ Err (8, 2) ]) → (q < length rs) × (m ≡ record { liars = q; grain = g; start = p; readings = rs })
  judged_by true q g p rs m t e = (ltb-true q (length rs) t, (let z : m ≡ record { liars = q; grain = g; start = p; readings = rs } = cc in z))
  judged_by false q g p rs m t e = cc

  -- a body that comes to something is written of it
  abbrev BodyOf : ℕ → Grain → List ℕ → Meant P R → Type 0
  BodyOf q g rest m = (m.liars ≡ q) × (m.grain ≡ g) × Sensible m × (rest ≡ body_text m.start m.readings)

  body_by : (q : ℕ) (g : Grain) (p : P) (after : List ℕ) (m : Meant P R) (s : Result (List R) (ℕ × ℕ)) → Rest J 0 after s → Ok m ≡ judged q g p s → (rest : List ℕ) → rest ≡ line (codes "start=") (start p) ++ after → BodyOf q g rest m
  body_by q g p after m (Err f) h e rest r = cc
  body_by q g p after m (Ok rs) h e rest r =
      let k = judged_by (ltb q (length rs)) q g p rs m refl e in
      let t = rest_reads w no_end 0 after (Ok rs) rs (omega arith) h refl in
      let z = zero-add (length rs) in
      subst (BodyOf q g rest) (sym k.1) (
        refl,
        refl,
        (k.0, omega (arith, z, t.1)),
        r ∙ ap (λ u. line (codes "start=") (start p) ++ u) (t.2 ∙ ap (λ (i : ℕ). tail_text w no_end i rs) z ∙ sym (tail_is rs)),
      )

  body_reads : (q : ℕ) (g : Grain) (rest : List ℕ) (m : Meant P R) → Body V J q g rest (Ok m) → BodyOf q g rest m
  body_reads q g rest m h =
      let k = reads_line (codes "start=") start v 4 (λ p rest r. (s : Result (List R) (ℕ × ℕ)) × Rest J 0 rest s × (r ≡ judged q g p s)) rest m h in
      body_by q g k.0 k.1 m k.4.0 k.4.1 k.4.2 rest k.2

  -- a written file is short: no line has more than 91 bytes, and there are at most 21
  line_short : {X : Type 0} {K : List ℕ → Bool → Result X ℕ → Type 0} {Good : X → Type 0} (key : List ℕ) (value : X → List ℕ) → Writes K Good (λ x. key ++ value x) → (x : X) → Good x → (after : List ℕ) → length (line key (value x) ++ after) ≤ 91 + length after
  line_short key value u x g after = omega (arith, ap length (line_joined key (value x) after), length-append (key ++ value x) (10 ∷ after), u.short x g)

  readings_short : (rs : List R) → length (flat_map reading rs) ≤ 91 * length rs
  readings_short [] = omega arith
  readings_short (x ∷ rs) =
      omega (arith, length-append (reading x) (flat_map reading rs), ap length (spelled x), length-append (text x) (10 ∷ []), w.short x tt, readings_short rs)

  end_short : (n : ℕ) → n ≤ 16 → length (line (codes "end=") (decimal n)) ≤ 91
  end_short n h = omega (arith, length-append (decimal n) (10 ∷ []), listed_short (pos n ∷ []) (natural_fits n (omega arith)))

  lines_short : (k : Kind) (m : Meant P R) → Sensible m → length (lines k start reading m) ≤ 4096
  lines_short k m h =
      let end = line (codes "end=") (decimal (length m.readings)) in
      let b = line_short (codes "start=") start v m.start tt (tail m.readings) in
      let g = line_short (codes "grain=") (λ (x : Grain). decimal x.size) grain_sort m.grain tt (body_text m.start m.readings) in
      let q = line_short (codes "liars=") decimal liars_sort m.liars (omega (arith, h.0, h.1)) (line (codes "grain=") (decimal m.grain.size) ++ body_text m.start m.readings) in
      let s = line_short (codes "sheet=") name sheet_sort k tt (line (codes "liars=") (decimal m.liars) ++ (line (codes "grain=") (decimal m.grain.size) ++ body_text m.start m.readings)) in
      omega (arith, length-append (flat_map reading m.readings) end, readings_short m.readings, end_short (length m.readings) h.1, b, g, q, s, h.1)

  -- all lines
  lines_writes : (k : Kind) (on : Meant P R → Survey) → ((q : ℕ) (g : Grain) (rest : List ℕ) (m : Meant P R) → Body V J q g rest (Ok m) → Bodies k q g rest (Ok (on m))) → (m : Meant P R) → Sensible m → Comes (lines k start reading m) (Ok (on m))
  lines_writes k on f m h =
      inr (
        lines_short k m h,
        writes_line (codes "sheet=") name sheet_sort 1 (λ k. Then LiarsLine 2 (λ q. Then GrainLine 3 (λ g. Bodies k q g))) k tt _ (Ok (on m))
            (writes_line (codes "liars=") decimal liars_sort 2 (λ q. Then GrainLine 3 (λ g. Bodies k q g)) m.liars (omega (arith, h.0, h.1)) _ (Ok (on m))
            (writes_line (codes "grain=") (λ (x : Grain). decimal x.size) grain_sort 3 (λ g. Bodies k m.liars g) m.grain tt _ (Ok (on m))
            (f m.liars m.grain (body_text m.start m.readings) m (body_writes m.liars m.grain m.start m.readings h.0 h.1)))),
      )

  -- the lines that a survey comes from
  abbrev Headed : Kind → List ℕ → Meant P R → Type 0
  Headed k file m = Sensible m × (file ≡ lines k start reading m)

  headed : (k : Kind) (file after rest last : List ℕ) (q : ℕ) (g : Grain) (m : Meant P R) → file ≡ line (codes "sheet=") (name k) ++ after → after ≡ line (codes "liars=") (decimal q) ++ rest → rest ≡ line (codes "grain=") (decimal g.size) ++ last → BodyOf q g last m → Headed k file m
  headed k file after rest last q g m e f h (i, j, n, t) = (
    n,
    e
        ∙ ap (λ u. line (codes "sheet=") (name k) ++ u)
        (f ∙ ap (λ (x : ℕ). line (codes "liars=") (decimal x) ++ rest) (sym i)
        ∙ ap (λ u. line (codes "liars=") (decimal m.liars) ++ u)
        (h ∙ ap (λ (x : Grain). line (codes "grain=") (decimal x.size) ++ last) (sym j) ∙ ap (λ u. line (codes "grain=") (decimal m.grain.size) ++ u) t)),
  )

-- the two kinds of sheets
plane_no_end : (u : List ℕ) → PlaneLine (codes "end=" ++ u) true (Err 15)
plane_no_end u = inr (other_key 114 101 (codes "ing=") _ (Numbers 4 RingValue) true (λ e. omega (arith, e)), other_key 99 101 (codes "one=") _ (Numbers 6 ConeValue) true (λ e. omega (arith, e)))

dial_no_end : (u : List ℕ) → DialLine (codes "end=" ++ u) true (Err 15)
dial_no_end u = other_key 97 101 (codes "rc=") _ BearingValue true (λ e. omega (arith, e))

plane_spelled : (p : PlaneReading) → ring_line p ≡ plane_text p ++ 10 ∷ []
plane_spelled (OfRing r) = refl
plane_spelled (OfCone c) = refl

dial_spelled : (a : ArcReading) → arc_line a ≡ (codes "arc=" ++ listed (arc_numbers a.arc)) ++ 10 ∷ []
dial_spelled a = refl

-- a file that has the form comes to what it is written of
pub comes_written : (file : List ℕ) (s : Survey) → HasForm file s → Comes file (Ok s)
comes_written file (on_plane m) (h, e) =
    subst (λ (f : List ℕ). Comes f (Ok (on_plane m))) (sym e)
    (lines_writes box_sort plane_sort plane_no_end ring_line plane_spelled Plane on_plane (λ q g rest m b. (Ok m, b, refl)) m h)
comes_written file (on_dial m) (h, e) =
    subst (λ (f : List ℕ). Comes f (Ok (on_dial m))) (sym e)
    (lines_writes arc_sort dial_sort dial_no_end arc_line dial_spelled Dial on_dial (λ q g rest m b. (Ok m, b, refl)) m h)

-- and only such a file comes to it
told_plane : (x : Result (Meant PlaneBox PlaneReading) (ℕ × ℕ)) (s : Survey) → Ok s ≡ told on_plane x → (m : Meant PlaneBox PlaneReading) × (x ≡ Ok m) × (s ≡ on_plane m)
told_plane (Ok m) s e = (m, refl, (let z : s ≡ on_plane m = cc in z))
told_plane (Err f) s e = cc

told_dial : (x : Result (Meant Arc ArcReading) (ℕ × ℕ)) (s : Survey) → Ok s ≡ told on_dial x → (m : Meant Arc ArcReading) × (x ≡ Ok m) × (s ≡ on_dial m)
told_dial (Ok m) s e = (m, refl, (let z : s ≡ on_dial m = cc in z))
told_dial (Err f) s e = cc

kinds_read : (k : Kind) (file after rest last : List ℕ) (q : ℕ) (g : Grain) (s : Survey) → file ≡ line (codes "sheet=") (name k) ++ after → after ≡ line (codes "liars=") (decimal q) ++ rest → rest ≡ line (codes "grain=") (decimal g.size) ++ last → Bodies k q g last (Ok s) → HasForm file s
kinds_read Plane file after rest last q g s e f h (x, b, t) =
    let k = told_plane x s t in
    let o = body_reads box_sort plane_sort plane_no_end ring_line plane_spelled q g last k.0 (subst (λ y. Body BoxValue PlaneLine q g last y) k.1 b) in
    subst (HasForm file) (sym k.2) (headed box_sort plane_sort plane_no_end ring_line plane_spelled Plane file after rest last q g k.0 e f h o)
kinds_read Dial file after rest last q g s e f h (x, b, t) =
    let k = told_dial x s t in
    let o = body_reads arc_sort dial_sort dial_no_end arc_line dial_spelled q g last k.0 (subst (λ y. Body ArcValue DialLine q g last y) k.1 b) in
    subst (HasForm file) (sym k.2) (headed arc_sort dial_sort dial_no_end arc_line dial_spelled Dial file after rest last q g k.0 e f h o)

pub comes_read : (file : List ℕ) (s : Survey) → Comes file (Ok s) → HasForm file s
comes_read file s (inl (h, q)) = cc
comes_read file s (inr (h, t)) =
    let a = reads_line (codes "sheet=") name sheet_sort 1 (λ k. Then LiarsLine 2 (λ q. Then GrainLine 3 (λ g. Bodies k q g))) file s t in
    let b = reads_line (codes "liars=") decimal liars_sort 2 (λ q. Then GrainLine 3 (λ g. Bodies a.0 q g)) a.1 s a.4 in
    let c = reads_line (codes "grain=") (λ (x : Grain). decimal x.size) grain_sort 3 (λ g. Bodies a.0 b.0 g) b.1 s b.4 in
    kinds_read a.0 file a.1 b.1 c.1 b.0 c.0 s a.2 b.2 c.2 c.4

pub exact : (file : List ℕ) (r : Result Survey (ℕ × ℕ)) → Comes file r → Exact file r
exact file r c =
    record {
      form = λ s e. comes_read file s (subst (λ q. Comes file q) e c);
      back = λ s f. comes_one file r (Ok s) c (comes_written file s f);
      only = λ q d. comes_one file q r d c;
    }
