-- The lines after the first reading.
use Rattle.std.proofs.Common.{◌≡◌, ℕ, suc, ◌+◌, ◌<◌, ◌≤◌, Bool, true, false, cond, eqb, ltb, List, [], ◌∷◌, ◌++◌, length, Some, None, Ok, Err, codes, Option, Result, sym, refl, ap, ◌∙◌, subst, inl, inr, add-one, arith}
use Rattle.std.proofs.lemmas.List.{append_assoc, append-nil, length_push, length-take-le}
use Rattle.std.proofs.lemmas.Bool.{ltb-true, lt-ltb, le-ltb, eqb-true, eqb-false}
use Rattle.readings.specs.Files.{Rest, refused, last, beyond, another, before, judged}
use Rattle.readings.specs.Lines.{Begins, Keyed, Numbers}
use Rattle.readings.specs.Requests.{Further, entered}
use Rattle.readings.specs.declared.readings.Readings.{Readings}
use Rattle.sheet.specs.declared.grain.Grain.{Grain}
use Rattle.readings.specs.Sorts.{EndValue, NextLine, entering, full}

module _ {R : Type 0} where
  -- readings in front of what the rest comes to
  abbrev pub after_all : List R → Result (List R) (ℕ × ℕ) → Result (List R) (ℕ × ℕ)
  after_all xs (Ok ys) = Ok (xs ++ ys)
  after_all xs (Err f) = Err f

  pub after_more : (xs : List R) (x : R) (s : Result (List R) (ℕ × ℕ)) → after_all xs (before x s) ≡ after_all (xs ++ x ∷ []) s
  after_more xs x (Ok ys) = ap Ok (sym (append_assoc xs (x ∷ []) ys))
  after_more xs x (Err f) = refl

  pub after_first : (x : R) (xs : List R) (s : Result (List R) (ℕ × ℕ)) → before x (after_all xs s) ≡ after_all (x ∷ xs) s
  after_first x xs (Ok ys) = refl
  after_first x xs (Err f) = refl

  after_none : (s : Result (List R) (ℕ × ℕ)) → after_all [] s ≡ s
  after_none (Ok ys) = refl
  after_none (Err f) = refl

  -- only the first sixteen are entered, and each as it was read
  entered_by : (b : Bool) (n : ℕ) (x y : R) → ltb n 16 ≡ b → ◌≡◌ {A = Result (Option R) ℕ} (Ok (Some x)) (elim b [ true ↦ Ok (Some y) | false ↦ Err 6 ]) → (n < 16) × (y ≡ x)
  entered_by true n x y t e = (ltb-true n 16 t, (let z : y ≡ x = cc in z))
  entered_by false n x y t e = cc

  refused_by : (b : Bool) (o : Option R) (e f : ℕ) → ◌≡◌ {A = Result (Option R) ℕ} (Ok o) (elim b [ true ↦ Err e | false ↦ Err f ]) → ⊥
  refused_by true o e f q = cc
  refused_by false o e f q = cc

  not_end : (b : Bool) (y : R) → ◌≡◌ {A = Result (Option R) ℕ} (Ok None) (elim b [ true ↦ Ok (Some y) | false ↦ Err 6 ]) → ⊥
  not_end true y e = cc
  not_end false y e = cc

  entering_some : (n : ℕ) (x : R) (q : Result R ℕ) → Ok (Some x) ≡ entering n q → (n < 16) × (q ≡ Ok x)
  entering_some n x (Ok y) e = let k = entered_by (ltb n 16) n x y refl e in (k.0, ap Ok k.1)
  entering_some n x (Err y) e = absurd (refused_by (ltb n 16) (Some x) y (full y) e)

  pub entering_none : (n : ℕ) (q : Result R ℕ) → Ok None ≡ entering n q → ⊥
  entering_none n (Ok y) e = not_end (ltb n 16) y e
  entering_none n (Err y) e = refused_by (ltb n 16) None y (full y) e

module _ {R : Type 0} (J : List ℕ → Bool → Result R ℕ → Type 0) where
  -- the end is no reading
  end_keyed : (b ended : Bool) (n : ℕ) (text : List ℕ) (x : R) → cond b (◌≡◌ {A = Result (Option R) ℕ} (Ok (Some x)) (Err 15)) (Keyed (codes "end=") (Numbers 1 (EndValue n)) text ended (Ok (Some x))) → ⊥
  end_keyed true ended n text x q = cc
  end_keyed false ended n text x (inl (none, q)) = cc
  end_keyed false true n text x (inr (v, e, inl (zs, l, inl (o, h, q)))) = let k = h.0 in cc
  end_keyed false true n text x (inr (v, e, inl (zs, l, inr (none, h)))) = let q = h.2 in cc
  end_keyed false true n text x (inr (v, e, inr (none, q))) = cc
  end_keyed false false n text x (inr (v, e, q)) = cc

  pub next_is : (n : ℕ) (text : List ℕ) (ended : Bool) (o p : Option R) → o ≡ p → NextLine J n text ended (Ok o) → NextLine J n text ended (Ok p)
  next_is n text ended o p e k = subst (λ (o : Option R). NextLine J n text ended (Ok o)) e k

  pub next_some : (n : ℕ) (text : List ℕ) (ended : Bool) (x : R) → NextLine J n text ended (Ok (Some x)) → (n < 16) × J text ended (Ok x)
  next_some n text ended x (inl ((q, j, e), k)) = let s = entering_some n x q e in (s.0, subst (J text ended) s.1 j)
  next_some n text ended x (inr (j, k)) = absurd (end_keyed (eqb n 0) ended n text x k)

  -- The first reading and others are read, and what the rest comes to is what all comes to.
  pub record Midway (begun : List R) (rest : List ℕ) (rs : List R) (n : ℕ) (left : List ℕ) : Type 0 where
    pub others : List R
    pub read : rs ≡ begun ++ others
    pub count : n ≡ suc (length others)
    pub goes : (s : Result (List R) (ℕ × ℕ)) → Rest J n left s → Rest J 1 rest (after_all others s)

  pub midway_begun : (rest : List ℕ) (rs : List R) (n : ℕ) → n ≡ 1 → Midway rs rest rs n rest
  midway_begun rest rs n f =
      record {
        others = [];
        read = sym (append-nil rs);
        count = f;
        goes = λ s r. subst (λ z. Rest J 1 rest z) (sym (after_none s)) (subst (λ (k : ℕ). Rest J k rest s) f r);
      }

  module _ {begun : List R} {rest rest' text after : List ℕ} {ended : Bool} {rs : List R} {n : ℕ} (w : Midway begun rest rs n rest') (b : Begins rest' text ended after) where
    pub midway_more : (x : R) (ss : List R) (m : ℕ) → NextLine J n text ended (Ok (Some x)) → ss ≡ rs ++ x ∷ [] → m ≡ n + 1 → Midway begun rest ss m after
    midway_more x ss m k e f =
        record {
          others = w.others ++ x ∷ [];
          read = e ∙ ap (λ zs. zs ++ x ∷ []) w.read ∙ append_assoc begun w.others (x ∷ []);
          count = omega (arith, f, w.count, length_push w.others x);
          goes = λ s r.
              subst (λ z. Rest J 1 rest z) (after_more w.others x s)
              (w.goes (before x s) (another b k (subst (λ (i : ℕ). Rest J i after s) (f ∙ add-one n) r)));
        }

    pub ended_well : (first : R) → begun ≡ first ∷ [] → NextLine J n text ended (Ok None) → after ≡ [] → Further J first rest (Ok rs)
    ended_well first e k f =
        let o = w.others in
        let b' : Begins rest' text ended [] = subst (λ (a : List ℕ). Begins rest' text ended a) f b in (
          after_all o (Ok []),
          w.goes (Ok []) (last b' k),
          ap Ok (w.read ∙ ap (λ zs. zs ++ o) e ∙ ap (λ zs. first ∷ zs) (sym (append-nil o))),
        )

    pub ended_ill : (first : R) → NextLine J n text ended (Ok None) → (after ≡ [] → ⊥) → Further J first rest (Err (15, 6 + n))
    ended_ill first k f = (Err (15, 6 + n), w.goes (Err (15, 6 + n)) (beyond b k f), refl)

    pub faulty : (first : R) (e : ℕ) → NextLine J n text ended (Err e) → Further J first rest (Err (e, 5 + n))
    faulty first e k = (Err (e, 5 + n), w.goes (Err (e, 5 + n)) (refused b k), refl)

module _ {R : Type 0} (J : List ℕ → Bool → Result R ℕ → Type 0) where
  pub first_ok : (rest text after : List ℕ) (ended : Bool) (first : R) (r : Result (List R) (ℕ × ℕ)) → Begins rest text ended after → J text ended (Ok first) → Further J first after r → Rest J 0 rest r
  first_ok rest text after ended first r b j (s, h, e) =
      subst (λ z. Rest J 0 rest z) (sym e)
      (another b (inl ((Ok first, j, refl), λ q. cc)) h)

  first_next : (t : Bool) (e : ℕ) (text : List ℕ) (ended : Bool) → eqb e 15 ≡ t → J text ended (Err e) → NextLine J 0 text ended (Err e)
  first_next true e text ended q j =
      let s = eqb-true e 15 q in
      inr ((Err 15, subst (λ (x : ℕ). J text ended (Err x)) s j, refl), ap Err s)
  first_next false e text ended q j = inl ((Err e, j, refl), λ h. eqb-false e 15 q (let s : e ≡ 15 = cc in s))

  pub first_err : (rest text after : List ℕ) (ended : Bool) (e : ℕ) → Begins rest text ended after → J text ended (Err e) → Rest J 0 rest (Err (e, 5))
  first_err rest text after ended e b j = refused b (first_next (eqb e 15) e text ended refl j)

-- a file with too many liars, and one with few enough
pub too_many : {P R : Type 0} (q : ℕ) (g : Grain) (p : P) (rs : List R) → length rs ≤ q → judged q g p (Ok rs) ≡ Err (8, 2)
too_many q g p rs h =
    ap (λ (b : Bool). elim b [ true ↦ Ok (record { liars = q; grain = g; start = p; readings = rs }) | false ↦ Err (8, 2) ]) (le-ltb q (length rs) h)

pub few_enough : {P R : Type 0} (q : ℕ) (g : Grain) (p : P) (rs : List R) → q < length rs → judged q g p (Ok rs) ≡ Ok (record { liars = q; grain = g; start = p; readings = rs })
few_enough q g p rs h =
    ap (λ (b : Bool). elim b [ true ↦ Ok (record { liars = q; grain = g; start = p; readings = rs }) | false ↦ Err (8, 2) ]) (lt-ltb q (length rs) h)

pub length_entered : {R : Type 0} (r : Readings R) → length (entered r) ≡ r.len
unfolding entered
length_entered r = length-take-le r.len r.items (omega (arith, r.places, r.few))
