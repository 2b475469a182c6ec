-- What numbers come to: a grain, a piece, a ring, a cone.
use Rattle.std.proofs.Common.{◌≡◌, ℕ, zero, suc, ◌+◌, ◌<◌, ◌≤◌, List, [], ◌∷◌, length, get_or, drop, map, ℤ, pos, negsuc, nat_abs, to_z, of_z, Ok, Err, Result, sym, refl, ap, ◌∙◌, subst, inl, inr, add-one, length-drop, to_z-of_z, w32, SFits, arith}
use Rattle.std.specs.Int.{FitsUnsignedBits}
use Rattle.std.specs.Array.{AllZipBelow}
use Rattle.std.specs.List.{All, AllZip, IsAmong}
use Rattle.std.specs.Result.{IfOk, IfErr}
use Rattle.std.proofs.lemmas.List.Elements.{All-get_or, All-from_recursion, All-nil, All-cons, All-head, All-tail}
use Rattle.std.proofs.lemmas.List.{drop_more, nil_from_length, length-map, get_or-map}
use Rattle.domain.specs.Refusals.{Given, code}
use Rattle.domain.specs.declared.refusal.Refusal.{Refusal}
use Rattle.plane.specs.Boxes.{AreBox, HasNumbers}
use Rattle.plane.specs.declared.plane_box.PlaneBox.{PlaneBox}
use Rattle.dial.specs.Arcs.{AreArc}
use Rattle.dial.specs.declared.arc.Arc.{Arc}
use Rattle.sheet.specs.declared.grain.Grain.{Grain}
use Rattle.numerals.specs.Lists.{Lists}
use Rattle.readings.specs.Lines.{The, Numbers, numbered}
use Rattle.readings.specs.Sorts.{ArcValue, BearingValue, GrainValue, Naturals, box_numbers, arc_numbers}

pos_same : (m n : ℕ) → pos m ≡ pos n → m ≡ n
pos_same m n e = cc

pub grain_made : (n : ℕ) (z : ℤ) (r : Result Grain Refusal) → pos n ≡ z → Given r 2 ((1 ≤ n) × (n ≤ 64)) (λ g. g.size ≡ n) → GrainValue (z ∷ []) (numbered r)
grain_made n z (Ok g) e h = inl (g, ap (λ y. y ∷ []) (sym e ∙ ap pos (sym h.1)), refl)
grain_made n z (Err x) e h = inr (none, (2, refl, ap Err h.1))
  where
    none : (g : Grain) → z ∷ [] ≡ pos g.size ∷ [] → ⊥
    none g q =
        let s : z ≡ pos g.size = cc in
        let m : n ≡ g.size = pos_same n g.size (e ∙ s) in
        h.0 (omega (arith, m, g.some), omega (arith, m, g.most))

pub box_made : (x0 y0 x1 y1 : ℕ) (r : Result PlaneBox Refusal) → Given r 1 (AreBox x0 y0 x1 y1) (λ b. HasNumbers x0 y0 x1 y1 b) → The (λ b. pos x0 ∷ pos y0 ∷ pos x1 ∷ pos y1 ∷ [] ≡ box_numbers b) (λ e. e ≡ 1) (numbered r)
box_made x0 y0 x1 y1 (Ok b) h = inl (b, (let a = h.1.0 in let c = h.1.1 in let d = h.1.2 in let f = h.1.3 in cc), refl)
box_made x0 y0 x1 y1 (Err x) h = inr (none, (1, refl, ap Err h.1))
  where
    none : (b : PlaneBox) → pos x0 ∷ pos y0 ∷ pos x1 ∷ pos y1 ∷ [] ≡ box_numbers b → ⊥
    none b q =
        let a : x0 ≡ b.columns.low = cc in
        let c : y0 ≡ b.rows.low = cc in
        let d : x1 ≡ b.columns.high = cc in
        let f : y1 ≡ b.rows.high = cc in
        h.0 (omega (arith, b.columns.ordered), omega (arith, b.rows.ordered), omega (arith, b.columns.most), omega (arith, b.rows.most))

pub arc_made : (s n : ℕ) (r : Result Arc Refusal) → Given r 1 (AreArc s n) (λ a. (a.start ≡ s) × (a.len ≡ n)) → The (λ a. pos s ∷ pos n ∷ [] ≡ arc_numbers a) (λ e. e ≡ 1) (numbered r)
arc_made s n (Ok a) h = inl (a, (let b = h.1.0 in let c = h.1.1 in cc), refl)
arc_made s n (Err x) h = inr (none, (1, refl, ap Err h.1))
  where
    none : (a : Arc) → pos s ∷ pos n ∷ [] ≡ arc_numbers a → ⊥
    none a q =
        let b : s ≡ a.start = cc in
        let c : n ≡ a.len = cc in
        h.0 (omega (arith, a.placed), omega (arith, a.some), omega (arith, a.most))

-- what a list has at n places from i on
abbrev pub places : {X : Type 0} → (ℕ → X) → ℕ → ℕ → List X
places f i zero = []
places f i (suc n) = f i ∷ places f (suc i) n

all_places : {X : Type 0} (f : ℕ → X) (d : X) (xs : List X) (n i : ℕ) → ((k : ℕ) → k < length xs → get_or xs k d ≡ f k) → length xs ≡ i + n → drop i xs ≡ places f i n
all_places f d xs zero i h e = nil_from_length (drop i xs) (simp length-drop (omega arith))
all_places f d xs (suc n) i h e =
    drop_more xs i d (omega arith) ∙ ap (λ y. y ∷ drop (i + 1) xs) (h i (omega arith)) ∙ ap (λ ys. f i ∷ ys) (rw add-one (all_places f d xs n (suc i) h (omega arith)))

-- a signed number at a place, as it is passed on
abbrev pub at : List ℤ → ℕ → ℤ
at xs i = to_z w32 (of_z w32 (get_or xs i (pos 0)))

at_is : (xs : List ℤ) (i : ℕ) → All (SFits w32) xs → i < length xs → get_or xs i (pos 0) ≡ at xs i
at_is xs i f l = sym (to_z-of_z (All-get_or (SFits w32) xs i (pos 0) l f))

-- what the numbers of a value come to, each by its place
pub read_as : {X : Type 0} (n : ℕ) (V : List ℤ → Result X ℕ → Type 0) (value : List ℕ) (xs : List ℤ) → Lists n value xs → (r : Result X ℕ) → V (places (at xs) 0 n) r → Numbers n V value r
read_as n V value xs l r h =
    inl (xs, l, subst (λ ys. V ys r) (sym (all_places (at xs) (pos 0) xs n 0 (λ k m. at_is xs k l.fit m) (omega (arith, l.count)))) h)

-- a number of some that are not negative is none below 0
natural_fits : (xs : List ℤ) (ns : List ℕ) (i : ℕ) (x : ℤ) → xs ≡ map pos ns → All (λ m. m ≤ 65535) ns → i < length xs → x ≡ get_or xs i x → FitsUnsignedBits 16 x
natural_fits xs ns i x e s l q =
    let m : i < length ns = omega (arith, ap length e, length-map ns pos) in
    let small : get_or ns i 0 ≤ 65535 = All-get_or (λ (m : ℕ). m ≤ 65535) ns i 0 m s in
    subst (FitsUnsignedBits 16) (sym (q ∙ ap (λ ys. get_or ys i x) e ∙ get_or-map pos ns i 0 x m)) (omega arith)

-- numbers that are taken one by one
module _ {U : Type 0} (S : U → ℤ → ℕ → U → Type 0) (F : U → ℤ → Refusal → U → Type 0) where
  taken : ((x : ℤ) (y : ℕ) (p q : U) → SFits w32 x → S p x y q → (x ≡ pos y) × (y ≤ 65535)) → (xs : List ℤ) (ys : List ℕ) → All (SFits w32) xs → AllZip (λ x y. (p : U) × (q : U) × S p x y q) xs ys → (xs ≡ map pos ys) × All (λ m. m ≤ 65535) ys
  taken says [] [] f z = (refl, All-nil (λ m. m ≤ 65535))
  taken says [] (y ∷ ys) f z = absurd z
  taken says (x ∷ xs) [] f z = absurd z
  taken says (x ∷ xs) (y ∷ ys) f (h, z) =
      let w = says x y h.0 h.1 (All-head (SFits w32) x xs f) h.2 in
      let t = taken says xs ys (All-tail (SFits w32) x xs f) z in
      (ap (λ z. z ∷ xs) w.0 ∙ ap (λ zs. pos y ∷ zs) t.0, All-cons (λ m. m ≤ 65535) y ys w.1 t.1)

  pub all_taken : (n : ℕ) (value : List ℕ) (xs : List ℤ) → Lists n value xs → (r : Result (List ℕ) Refusal) → IfOk r (λ ys. AllZipBelow (λ x y. (p : U) × (q : U) × S p x y q) xs ys n) → IfErr r (λ e. (x : ℤ) × IsAmong xs x × (p : U) × (q : U) × F p x e q) → ((x : ℤ) (y : ℕ) (p q : U) → SFits w32 x → S p x y q → (x ≡ pos y) × (y ≤ 65535)) → ((x : ℤ) (e : Refusal) (p q : U) → SFits w32 x → F p x e q → (code e ≡ 1) × (FitsUnsignedBits 16 x → ⊥)) → Numbers n Naturals value (numbered r)
  all_taken n value xs l (Ok ys) o h says refuses = inl (xs, l, inl (ys, taken says xs ys l.fit o.whole, refl))
  all_taken n value xs l (Err e) o (x, (i, (m, q)), p, t, s) says refuses =
      let f : SFits w32 x = subst (SFits w32) (sym q) (All-get_or (SFits w32) xs i x m l.fit) in
      let w = refuses x e p t f s in
      inl (xs, l, inr (λ ns v. w.1 (natural_fits xs ns i x v.0 v.1 m q), (1, refl, ap Err w.0)))

pub natural_is : (z : ℤ) (k n : ℕ) → FitsUnsignedBits k z → n ≡ nat_abs z → pos n ≡ z
natural_is (pos m) k n h e = ap pos e
natural_is (negsuc m) k n h e = absurd h

-- a thing by numbers that are not negative
module _ {P : Type 0} (n : ℕ) (nums : P → List ℤ) (value : List ℕ) where
  abbrev pub ByNaturals : Result P ℕ → Type 0
  ByNaturals = Numbers n (λ zs. The (λ p. zs ≡ nums p) (λ e. e ≡ 1)) value

  pub by_naturals : (ns : List ℕ) (r : Result P ℕ) → Numbers n Naturals value (Ok ns) → The (λ p. map pos (places (λ k. get_or ns k 0) 0 n) ≡ nums p) (λ e. e ≡ 1) r → ByNaturals r
  by_naturals ns r (inl (xs, l, inl (ms, w, q))) h =
      let e : ms ≡ ns = cc in
      let c : length ns ≡ n = omega (arith, l.count, ap length w.0, length-map ms pos, ap length e) in
      let s : xs ≡ map pos (places (λ k. get_or ns k 0) 0 n) = w.0 ∙ ap (map pos) (e ∙ all_places (λ k. get_or ns k 0) 0 ns n 0 (λ k m. refl) (omega arith)) in
      inl (xs, l, subst (λ zs. The (λ p. zs ≡ nums p) (λ e. e ≡ 1) r) (sym s) h)
  by_naturals ns r (inl (xs, l, inr (none, k))) t = let q = k.2 in cc
  by_naturals ns r (inr (none, q)) t = cc

  pub no_naturals : ((p : P) → (ns : List ℕ) × (nums p ≡ map pos ns) × All (λ m. m ≤ 65535) ns) → (e : ℕ) → Numbers n Naturals value (Err e) → ByNaturals (Err e)
  no_naturals all e (inl (xs, l, inl (ms, w, q))) = cc
  no_naturals all e (inl (xs, l, inr (none, k))) = inl (xs, l, inr (λ p s. let a = all p in none a.0 (s ∙ a.1, a.2), (k.0, k.1, (let q = k.2 in let s : e ≡ k.0 = cc in ap Err s))))
  no_naturals all e (inr (none, q)) = inr (none, (let s : e ≡ 16 = cc in ap Err s))

pub box_small : (b : PlaneBox) → (ns : List ℕ) × (box_numbers b ≡ map pos ns) × All (λ m. m ≤ 65535) ns
box_small b = (
  b.columns.low ∷ b.rows.low ∷ b.columns.high ∷ b.rows.high ∷ [],
  refl,
  All-from_recursion (λ m. m ≤ 65535) (b.columns.low ∷ b.rows.low ∷ b.columns.high ∷ b.rows.high ∷ []) (omega (arith, b.columns.ordered, b.columns.most), (omega (arith, b.rows.ordered, b.rows.most), (omega (arith, b.columns.most), (omega (arith, b.rows.most), tt)))),
)

pub arc_small : (a : Arc) → (ns : List ℕ) × (arc_numbers a ≡ map pos ns) × All (λ m. m ≤ 65535) ns
arc_small a = (a.start ∷ a.len ∷ [], refl, All-from_recursion (λ m. m ≤ 65535) (a.start ∷ a.len ∷ []) (omega (arith, a.placed), (omega (arith, a.most), tt)))

-- an arc as a reading
pub bearing_ok : (value : List ℕ) (a : Arc) → ArcValue value (Ok a) → BearingValue value (Ok (record { arc = a }))
bearing_ok value a (inl (zs, l, inl (b, e, q))) = inl (zs, l, inl (record { arc = a }, (let s : a ≡ b = cc in e ∙ ap arc_numbers (sym s)), refl))
bearing_ok value a (inl (zs, l, inr (n, x))) = let q = x.2 in cc
bearing_ok value a (inr (n, q)) = cc

pub bearing_err : (value : List ℕ) (e : ℕ) → ArcValue value (Err e) → BearingValue value (Err e)
bearing_err value e (inl (zs, l, inl (b, h, q))) = cc
bearing_err value e (inl (zs, l, inr (n, x))) = inl (zs, l, inr (λ a h. n a.arc h, (x.0, x.1, (let q = x.2 in let s : e ≡ x.0 = cc in ap Err s))))
bearing_err value e (inr (n, q)) = inr (n, (let s : e ≡ 16 = cc in ap Err s))
