-- The lines after the start: what is written is read, and nothing else is.
use Rattle.std.proofs.Common.{◌≡◌, ℕ, suc, ◌+◌, ◌<◌, ◌≤◌, Bool, true, false, cond, eqb, ltb, List, [], ◌∷◌, ◌++◌, length, pos, Some, None, Ok, Err, codes, decimal, Option, Result, sym, refl, ap, ◌∙◌, subst, inl, inr, add-zero, arith}
use Rattle.std.specs.List.{flat_map}
use Rattle.std.proofs.lemmas.List.Elements.{All-append}
use Rattle.std.proofs.lemmas.List.{append_assoc}
use Rattle.std.proofs.lemmas.Bool.{lt-ltb, eqb-false, ne_eqb}
use Rattle.numerals.specs.Lists.{listed}
use Rattle.readings.specs.Files.{Rest, refused, last, beyond, another}
use Rattle.readings.specs.Lines.{Begins, Numbers, Keyed}
use Rattle.readings.specs.Sorts.{EndValue, NextLine}
use Rattle.readings.proofs.Bodies.{next_some, entering_none}
use Rattle.readings.proofs.Texts.{without_end, listed_without, natural_fits}
use Rattle.readings.proofs.Writes.{Writes, Any}

-- the text of the last line
abbrev pub end_text : ℕ → List ℕ
end_text n = codes "end=" ++ decimal n

pub end_begins : (n : ℕ) → n ≤ 16 → Begins (end_text n ++ 10 ∷ []) (end_text n) true []
end_begins n h =
    record {
      line = All-append (λ b. b ≡ 10 → ⊥) (codes "end=") (decimal n) (without_end (codes "end=") refl) (listed_without (pos n ∷ []) (natural_fits n (omega arith)));
      joined = refl;
    }

module _ {R : Type 0} (J : List ℕ → Bool → Result R ℕ → Type 0) where
  -- one more reading
  some_by : (b : Bool) (x : R) → b ≡ true → ◌≡◌ {A = Result (Option R) ℕ} (Ok (Some x)) (elim b [ true ↦ Ok (Some x) | false ↦ Err 6 ])
  some_by true x e = refl
  some_by false x e = cc

  pub next_another : (n : ℕ) (text : List ℕ) (x : R) → n < 16 → J text true (Ok x) → NextLine J n text true (Ok (Some x))
  next_another n text x h j = inl ((Ok x, j, some_by (ltb n 16) x (lt-ltb n 16 h)), λ q. cc)

  -- what an end line says
  end_none : (b ended : Bool) (n : ℕ) (text : List ℕ) → eqb n 0 ≡ b → cond b (◌≡◌ {A = Result (Option R) ℕ} (Ok None) (Err 15)) (Keyed (codes "end=") (Numbers 1 (EndValue {R = R} n)) text ended (Ok None)) → (0 < n) × (ended ≡ true) × (text ≡ end_text n)
  end_none true ended n text t q = cc
  end_none false ended n text t (inl (none, q)) = cc
  end_none false true n text t (inr (v, e, inl (zs, l, inl (o, h, q)))) =
      let k = eqb-false n 0 t in
      (omega (arith, k), refl, e ∙ ap (λ u. codes "end=" ++ u) (l.written ∙ ap listed h.1))
  end_none false true n text t (inr (v, e, inl (zs, l, inr (none, h)))) = let q = h.2 in cc
  end_none false true n text t (inr (v, e, inr (none, q))) = cc
  end_none false false n text t (inr (v, e, q)) = cc

  pub next_end : (n : ℕ) (text : List ℕ) (ended : Bool) → NextLine J n text ended (Ok None) → (0 < n) × (ended ≡ true) × (text ≡ end_text n)
  next_end n text ended (inl ((q, j, e), k)) = absurd (entering_none n q e)
  next_end n text ended (inr (j, k)) = end_none (eqb n 0) ended n text refl k

  -- the end, after some readings
  other_by : (b : Bool) → ◌≡◌ {A = Result (Option R) ℕ} (Err 15) (elim b [ true ↦ Err 15 | false ↦ Err 15 ])
  other_by true = refl
  other_by false = refl

  pub next_ended : (n : ℕ) → 0 < n → n ≤ 16 → J (end_text n) true (Err 15) → NextLine J n (end_text n) true (Ok None)
  next_ended n h l j =
      inr (
        (Err 15, j, other_by (ltb n 16)),
        subst (λ (b : Bool). cond b (◌≡◌ {A = Result (Option R) ℕ} (Ok None) (Err 15)) (Keyed (codes "end=") (Numbers 1 (EndValue {R = R} n)) (end_text n) true (Ok None))) (sym (ne_eqb n 0 (λ e. omega (arith, e))))
            (inr (decimal n, refl, inl (pos n ∷ [], record { count = refl; fit = natural_fits n (omega arith); written = refl }, inl (None, (refl, refl), refl)))),
      )

-- the readings and the end
module _ {R : Type 0} {J : List ℕ → Bool → Result R ℕ → Type 0} {text : R → List ℕ} (w : Writes J Any text) (no_end : (v : List ℕ) → J (codes "end=" ++ v) true (Err 15)) where
  abbrev pub tail_text : ℕ → List R → List ℕ
  tail_text n rs = flat_map (λ x. text x ++ 10 ∷ []) rs ++ (end_text n ++ 10 ∷ [])

  pub rest_writes : (n m : ℕ) (rs : List R) → m ≡ n + length rs → 0 < m → m ≤ 16 → Rest J n (tail_text m rs) (Ok rs)
  rest_writes n m [] e h l =
      let q : m ≡ n = omega arith in
      subst (λ (k : ℕ). Rest J k (tail_text m []) (Ok [])) q (last (end_begins m l) (next_ended J m h l (no_end (decimal m))))
  rest_writes n m (x ∷ rs) e h l =
      another {text = text x} {after = tail_text m rs} {ended = true} {x = x} {r = Ok rs}
      (record { line = w.plain x tt; joined = append_assoc (text x ++ 10 ∷ []) (flat_map (λ x. text x ++ 10 ∷ []) rs) (end_text m ++ 10 ∷ []) ∙ append_assoc (text x) (10 ∷ []) (tail_text m rs) })
      (next_another J n (text x) x (omega arith) (w.writes x tt)) (rest_writes (suc n) m rs (omega arith) h l)

  -- what is read is written so
  abbrev pub Told : ℕ → List ℕ → List R → Type 0
  Told n rest rs = (0 < n + length rs) × (n + length rs ≤ 16) × (rest ≡ tail_text (n + length rs) rs)

  cons_told : (n : ℕ) (rest after t : List ℕ) (ended : Bool) (x : R) (rs : List R) → Begins rest t ended after → NextLine J n t ended (Ok (Some x)) → Told (suc n) after rs → Told n rest (x ∷ rs)
  cons_told n rest after t ended x rs b k (h, l, e) =
      let j = w.reads t ended x (next_some J n t ended x k).1 in
      let s : suc n + length rs ≡ n + suc (length rs) = omega arith in
      let b' : Begins rest (text x) true after = subst (λ (c : Bool). Begins rest (text x) c after) j.0 (subst (λ (u : List ℕ). Begins rest u ended after) j.1 b) in (
        omega arith,
        omega arith,
        b'.joined ∙ ap (λ u. text x ++ 10 ∷ u) (e ∙ ap (λ (i : ℕ). tail_text i rs) s) ∙ sym (append_assoc (text x ++ 10 ∷ []) (flat_map (λ x. text x ++ 10 ∷ []) rs) (end_text (n + suc (length rs)) ++ 10 ∷ []) ∙ append_assoc (text x) (10 ∷ []) (tail_text (n + suc (length rs)) rs)),
      )

  pub rest_reads : (n : ℕ) (rest : List ℕ) (r : Result (List R) (ℕ × ℕ)) (rs : List R) → n ≤ 16 → Rest J n rest r → r ≡ Ok rs → Told n rest rs
  rest_reads n rest r rs l (refused {e = e} b k) q = cc
  rest_reads n rest r rs l (last {text = t} {ended = ended} b k) q =
      let z : rs ≡ [] = cc in
      let j = next_end J n t ended k in
      let b' : Begins rest (end_text n) true [] = subst (λ (c : Bool). Begins rest (end_text n) c []) j.1 (subst (λ (u : List ℕ). Begins rest u ended []) j.2 b) in
      subst (λ (ys : List R). Told n rest ys) (sym z) (omega (arith, j.0), omega arith, b'.joined ∙ ap (λ (i : ℕ). end_text i ++ 10 ∷ []) (sym (add-zero n)))
  rest_reads n rest r rs l (beyond b k f) q = cc
  rest_reads n rest r rs l (another {text = t} {after = after} {ended = ended} {x = x} {r = Ok ys} b k h) q =
      let z : rs ≡ x ∷ ys = cc in
      let m = (next_some J n t ended x k).0 in
      subst (λ (zs : List R). Told n rest zs) (sym z) (cons_told n rest after t ended x ys b k (rest_reads (suc n) after (Ok ys) ys (omega arith) h refl))
  rest_reads n rest r rs l (another {x = x} {r = Err f} b k h) q = cc
