-- A line, a value, a file comes to one thing only.
use Rattle.std.proofs.Common.{◌≡◌, ℕ, suc, ◌+◌, Bool, true, false, cond, eqb, ◌⊎◌, List, [], ◌∷◌, ℤ, pos, Some, None, Ok, Err, codes, Option, Result, sym, refl, ap, ◌∙◌, subst, inl, inr}
use Rattle.std.proofs.lemmas.List.{append_cancel_left}
use Rattle.numerals.proofs.Commas.{one_list}
use Rattle.numerals.proofs.Cuts.{one_cut, never_cut}
use Rattle.readings.specs.Files.{Rest, refused, last, beyond, another, before}
use Rattle.readings.specs.Lines.{Begins, The, Numbers, Whole, Keyed, Else, Then}
use Rattle.readings.specs.Sorts.{EndValue, EndLine, EnteringLine, NextLine, entering}

-- a relation that has at most one outcome
abbrev pub One : {X : Type 0} → (X → Type 0) → Type 0
One {X} J = (r s : X) → J r → J s → r ≡ s

-- a sort of lines that comes to one thing on each line
abbrev pub Sure : {X : Type 0} → (List ℕ → Bool → X → Type 0) → Type 0
Sure J = (text : List ℕ) (ended : Bool) → One (J text ended)

pub the_one : {X : Type 0} (W : X → Type 0) (E : ℕ → Type 0) → One W → One E → One (The W E)
the_one W E w f r s (inl (x, h, p)) (inl (y, k, q)) = p ∙ ap Ok (w x y h k) ∙ sym q
the_one W E w f r s (inl (x, h, p)) (inr (n, k)) = absurd (n x h)
the_one W E w f r s (inr (n, h)) (inl (y, k, q)) = absurd (n y k)
the_one W E w f r s (inr (n, h)) (inr (m, k)) = h.2 ∙ ap Err (f h.0 k.0 h.1 k.1) ∙ sym k.2

pub numbers_one : {X : Type 0} (n : ℕ) (V : List ℤ → Result X ℕ → Type 0) → ((zs : List ℤ) → One (V zs)) → (value : List ℕ) → One (Numbers (suc n) V value)
numbers_one n V v value r s (inl (zs, l, h)) (inl (ys, m, k)) = v ys r s (subst (λ (xs : List ℤ). V xs r) (one_list n value zs ys l m) h) k
numbers_one n V v value r s (inl (zs, l, h)) (inr (none, q)) = absurd (none zs l)
numbers_one n V v value r s (inr (none, p)) (inl (ys, m, k)) = absurd (none ys m)
numbers_one n V v value r s (inr (none, p)) (inr (other, q)) = p ∙ sym q

whole_one : {X : Type 0} (V : List ℕ → Result X ℕ → Type 0) → ((value : List ℕ) → One (V value)) → (value : List ℕ) (ended : Bool) → One (Whole V value ended)
whole_one V v value true r s h k = v value r s h k
whole_one V v value false r s h k = h ∙ sym k

pub keyed_one : {X : Type 0} (key : List ℕ) (V : List ℕ → Result X ℕ → Type 0) → ((value : List ℕ) → One (V value)) → Sure (Keyed key V)
keyed_one key V v text ended r s (inl (n, p)) (inl (m, q)) = p ∙ sym q
keyed_one key V v text ended r s (inl (n, p)) (inr (w, e, k)) = absurd (n w e)
keyed_one key V v text ended r s (inr (u, e, h)) (inl (m, q)) = absurd (m u e)
keyed_one key V v text ended r s (inr (u, e, h)) (inr (w, f, k)) =
    whole_one V v w ended r s (subst (λ (x : List ℕ). Whole V x ended r) (append_cancel_left key u w (sym e ∙ f)) h) k

pub else_one : {X : Type 0} (J K : List ℕ → Bool → Result X ℕ → Type 0) → Sure J → Sure K → Sure (Else J K)
else_one J K j k text ended r s (inl (h, n)) (inl (g, m)) = j text ended r s h g
else_one J K j k text ended r s (inl (h, n)) (inr (g, m)) = absurd (n (j text ended r (Err 15) h g))
else_one J K j k text ended r s (inr (h, n)) (inl (g, m)) = absurd (m (j text ended s (Err 15) g h))
else_one J K j k text ended r s (inr (h, n)) (inr (g, m)) = k text ended r s n m

-- the first line of what is left is one line
pub begins_one : (rest t u : List ℕ) (a b : Bool) (v w : List ℕ) → Begins rest t a v → Begins rest u b w → (t ≡ u) × (a ≡ b) × (v ≡ w)
begins_one rest t u true true v w h k = let r = one_cut 10 t v u w h.line k.line (sym h.joined ∙ k.joined) in (r.0, refl, r.1)
begins_one rest t u true false v w h k = absurd (never_cut 10 u t v k.line (sym k.joined.0 ∙ h.joined))
begins_one rest t u false true v w h k = absurd (never_cut 10 t u w h.line (sym h.joined.0 ∙ k.joined))
begins_one rest t u false false v w h k = (sym h.joined.0 ∙ k.joined.0, refl, h.joined.1 ∙ sym k.joined.1)

-- the same line judged twice
same_line : {X : Type 0} (J : List ℕ → Bool → X → Type 0) → Sure J → (rest t u : List ℕ) (a b : Bool) (v w : List ℕ) → Begins rest t a v → Begins rest u b w → (r s : X) → J t a r → J u b s → r ≡ s
same_line J j rest t u a b v w h k r s p q =
    let e = begins_one rest t u a b v w h k in
    j u b r s (subst (λ (x : Bool). J u x r) e.1 (subst (λ (x : List ℕ). J x a r) e.0 p)) q

module _ {X Y : Type 0} (J : List ℕ → Bool → Result X ℕ → Type 0) (k : ℕ) (K : X → List ℕ → Result Y (ℕ × ℕ) → Type 0) where
  pub then_one : Sure J → ((x : X) (rest : List ℕ) → One (K x rest)) → (rest : List ℕ) → One (Then J k K rest)
  then_one j f rest r s h g = by h.comes g.comes
    where
      line : (p q : Result X ℕ) → J h.text h.ended p → J g.text g.ended q → p ≡ q
      line p q = same_line J j rest h.text g.text h.ended g.ended h.after g.after h.begins g.begins p q

      by : ((e : ℕ) × J h.text h.ended (Err e) × (r ≡ Err (e, k))) ⊎ ((x : X) × J h.text h.ended (Ok x) × K x h.after r) → ((e : ℕ) × J g.text g.ended (Err e) × (s ≡ Err (e, k))) ⊎ ((x : X) × J g.text g.ended (Ok x) × K x g.after s) → r ≡ s
      by (inl (e, p, q)) (inl (d, u, v)) = let m = line (Err e) (Err d) p u in let z : e ≡ d = cc in q ∙ ap (λ (x : ℕ). Err (x, k)) z ∙ sym v
      by (inl (e, p, q)) (inr (y, u, v)) = cc (line (Err e) (Ok y) p u)
      by (inr (x, p, q)) (inl (d, u, v)) = cc (line (Ok x) (Err d) p u)
      by (inr (x, p, q)) (inr (y, u, v)) =
          let m = line (Ok x) (Ok y) p u in
          let z : x ≡ y = cc in
          let a = (begins_one rest h.text g.text h.ended g.ended h.after g.after h.begins g.begins).2 in
          f y g.after r s (subst (λ (t : List ℕ). K y t r) a (subst (λ (w : X). K w h.after r) z q)) v

-- the line after n readings
module _ {R : Type 0} (J : List ℕ → Bool → Result R ℕ → Type 0) (j : Sure J) where
  entering_one : (n : ℕ) → Sure (EnteringLine J n)
  entering_one n text ended r s (p, h, e) (q, k, f) = e ∙ ap (entering n) (j text ended p q h k) ∙ sym f

  none_one : (n : ℕ) (zs : List ℤ) → One (λ (o : Option R). (o ≡ None) × (zs ≡ pos n ∷ []))
  none_one n zs o p h k = h.0 ∙ sym k.0

  end_one : (b : Bool) (n : ℕ) (text : List ℕ) (ended : Bool) → One (λ (r : Result (Option R) ℕ). cond b (r ≡ Err 15) (Keyed (codes "end=") (Numbers 1 (EndValue n)) text ended r))
  end_one true n text ended r s h k = h ∙ sym k
  end_one false n text ended r s h k =
      keyed_one (codes "end=") (Numbers 1 (EndValue n)) (numbers_one 0 (EndValue n) (λ zs. the_one (λ (o : Option R). (o ≡ None) × (zs ≡ pos n ∷ [])) (λ e. e ≡ 17) (none_one n zs) (λ x y p q. p ∙ sym q))) text ended r s h k

  pub next_one : (n : ℕ) → Sure (NextLine J n)
  next_one n = else_one (EnteringLine J n) (EndLine n) (entering_one n) (λ text ended. end_one (eqb n 0) n text ended)

  next_same : (n : ℕ) (rest t u : List ℕ) (a b : Bool) (v w : List ℕ) → Begins rest t a v → Begins rest u b w → (r s : Result (Option R) ℕ) → NextLine J n t a r → NextLine J n u b s → r ≡ s
  next_same n = same_line (NextLine J n) (next_one n)

  -- what the lines after n readings come to, after one more of them

  pub rest_one : (n : ℕ) (rest : List ℕ) → One (Rest J n rest)
  rest_one n rest r s (refused {e = e} {text = t} {after = v} {ended = a} h p) (refused {e = d} {text = u} {after = w} {ended = b} k q) =
      let m = next_same n rest t u a b v w h k (Err e) (Err d) p q in
      let z : e ≡ d = cc in ap (λ (x : ℕ). Err (x, 5 + n)) z
  rest_one n rest r s (refused {e = e} {text = t} {after = v} {ended = a} h p) (last {text = u} {ended = b} k q) =
      cc (next_same n rest t u a b v [] h k (Err e) (Ok None) p q)
  rest_one n rest r s (refused {e = e} {text = t} {after = v} {ended = a} h p) (beyond {text = u} {after = w} {ended = b} k q m) =
      cc (next_same n rest t u a b v w h k (Err e) (Ok None) p q)
  rest_one n rest r s (refused {e = e} {text = t} {after = v} {ended = a} h p) (another {text = u} {after = w} {ended = b} {x = x} k q m) =
      cc (next_same n rest t u a b v w h k (Err e) (Ok (Some x)) p q)
  rest_one n rest r s (last {text = t} {ended = a} h p) (refused {e = d} {text = u} {after = w} {ended = b} k q) =
      cc (next_same n rest t u a b [] w h k (Ok None) (Err d) p q)
  rest_one n rest r s (last {text = t} {ended = a} h p) (last {text = u} {ended = b} k q) = refl
  rest_one n rest r s (last {text = t} {ended = a} h p) (beyond {text = u} {after = w} {ended = b} k q m) =
      absurd (m (sym (begins_one rest t u a b [] w h k).2))
  rest_one n rest r s (last {text = t} {ended = a} h p) (another {text = u} {after = w} {ended = b} {x = x} k q m) =
      cc (next_same n rest t u a b [] w h k (Ok None) (Ok (Some x)) p q)
  rest_one n rest r s (beyond {text = t} {after = v} {ended = a} h p o) (refused {e = d} {text = u} {after = w} {ended = b} k q) =
      cc (next_same n rest t u a b v w h k (Ok None) (Err d) p q)
  rest_one n rest r s (beyond {text = t} {after = v} {ended = a} h p o) (last {text = u} {ended = b} k q) =
      absurd (o (begins_one rest t u a b v [] h k).2)
  rest_one n rest r s (beyond h p o) (beyond k q m) = refl
  rest_one n rest r s (beyond {text = t} {after = v} {ended = a} h p o) (another {text = u} {after = w} {ended = b} {x = x} k q m) =
      cc (next_same n rest t u a b v w h k (Ok None) (Ok (Some x)) p q)
  rest_one n rest r s (another {text = t} {after = v} {ended = a} {x = x} h p o) (refused {e = d} {text = u} {after = w} {ended = b} k q) =
      cc (next_same n rest t u a b v w h k (Ok (Some x)) (Err d) p q)
  rest_one n rest r s (another {text = t} {after = v} {ended = a} {x = x} h p o) (last {text = u} {ended = b} k q) =
      cc (next_same n rest t u a b v [] h k (Ok (Some x)) (Ok None) p q)
  rest_one n rest r s (another {text = t} {after = v} {ended = a} {x = x} h p o) (beyond {text = u} {after = w} {ended = b} k q m) =
      cc (next_same n rest t u a b v w h k (Ok (Some x)) (Ok None) p q)
  rest_one n rest r s (another {text = t} {after = v} {ended = a} {x = x} {r = p'} h p o) (another {text = u} {after = w} {ended = b} {x = y} {r = q'} k q m) =
      let e = next_same n rest t u a b v w h k (Ok (Some x)) (Ok (Some y)) p q in
      let z : x ≡ y = cc in
      let i = rest_one (suc n) w p' q' (subst (λ (c : List ℕ). Rest J (suc n) c p') (begins_one rest t u a b v w h k).2 o) m in
      ap (λ c. before c p') z ∙ ap (before y) i
