-- Points by class, and what taking adds to them.
use Rattle.std.proofs.Common.{◌≡◌, ℕ, suc, ◌+◌, ◌^◌, ◌<◌, ◌≤◌, Bool, List, [], ◌∷◌, ◌++◌, length, reverse, get_or, take, drop, Ok, Err, sym, refl, ap, ◌∙◌, subst, ap₂, arith}
use Rattle.std.proofs.lemmas.List.{take_more, drop_more, take-append-drop, length-drop, reverse-append}
use Rattle.std.proofs.lemmas.List.Sums.{sum_by-cons, sum_by-append}
use Rattle.domain.specs.Laws.{Laws}
use Rattle.domain.specs.Maps.{Maps, total}
use Rattle.domain.specs.declared.refusal.Refusal.TheVariants.{RollEmpty}
use Rattle.domain.proofs.Totals.{count_height}
use Rattle.domain.specs.declared.domain.Domain
use Rattle.contractor.specs.declared.contractor.Contractor
use Rattle.contractor.specs.Means.{means}
use Rattle.contractor.specs.Meaning.{meaning, Sound}
use Rattle.paving.specs.Laws.{points_in, points_at}
use Rattle.paving.specs.Sheet.{Task, State, outcome, roll, gone, of_class, put}
use Rattle.paving.specs.Turns.{answered, one_taken, take_from, take_oldest, points_of, tally, turn}
use Rattle.paving.specs.declared.answers.Answer.TheVariants.{Taken as Took, Tallied}
use Rattle.paving.specs.declared.answers.Answer.{Answer}
use Rattle.paving.specs.declared.classes.Class.{Class}
use Rattle.paving.specs.declared.classes.Class.TheVariants.{Inside, Outside, Undecided}
use Rattle.paving.specs.declared.records.Record.{Record}
use Rattle.paving.specs.declared.tallies.Points.{Points}
use Rattle.paving.specs.declared.turns.Turn.TheVariants.{Take, Tally as TallyTurn}
use Rattle.paving.proofs.Keeping.{Kept, keeps}
use Rattle.paving.proofs.Telling.{sum_law}
use Rattle.sheet.specs.Counts.{plus}
use Rattle.sheet.specs.Piles.{waiting}
use Rattle.sheet.specs.declared.roll.Roll.{Roll}
use Rattle.sheet.specs.Rolls.{rolled}
use Rattle.sheet.specs.Shown.{Shows}
use Rattle.sheet.specs.Standing.{task_of, take_answer}
use Rattle.sheet.specs.declared.sheet.Sheet.{Sheet}
use Rattle.sheet.specs.declared.store.Store.{Store}
use Rattle.sheet.proofs.Turning.{Does, made_below}

put_append : {P : Type 0} (c e : Class) (p : P) (ps qs : List P) → put c e p ps ++ qs ≡ put c e p (ps ++ qs)
put_append Inside Inside p ps qs = refl
put_append Inside Outside p ps qs = refl
put_append Inside Undecided p ps qs = refl
put_append Outside Inside p ps qs = refl
put_append Outside Outside p ps qs = refl
put_append Outside Undecided p ps qs = refl
put_append Undecided Inside p ps qs = refl
put_append Undecided Outside p ps qs = refl
put_append Undecided Undecided p ps qs = refl

pub of_class_append : {P : Type 0} (c : Class) (rs qs : List (Record P)) → of_class c (rs ++ qs) ≡ of_class c rs ++ of_class c qs
of_class_append c [] qs = refl
of_class_append c (r ∷ rs) qs =
    ap (put c r.class r.piece) (of_class_append c rs qs) ∙ sym (put_append c r.class r.piece (of_class c rs) (of_class c qs))

-- the oldest on the roll is the next taken
next_taken : {X : Type 0} (n : ℕ) (xs : List X) (y : X) (ys : List X) → drop n xs ≡ y ∷ ys → (take (suc n) xs ≡ take n xs ++ y ∷ []) × (drop (suc n) xs ≡ ys)
next_taken n xs y ys e =
    let h : n < length xs = omega (arith, ap length e, length-drop n xs) in
    let f = drop_more xs n y h in
    let q : get_or xs n y ≡ y = cc in
    let r : drop (n + 1) xs ≡ ys = cc in
    let o : suc n ≡ n + 1 = omega arith in
    (ap (λ (k : ℕ). take k xs) o ∙ take_more xs n y h ∙ ap (λ z. take n xs ++ z ∷ []) q, ap (λ (k : ℕ). drop k xs) o ∙ r)

module _ {P : Type 0} (t : Task P) where
  -- one record more
  total_push : (c : Class) (rs : List (Record P)) (r : Record P) → total t.maps (of_class c (rs ++ r ∷ [])) ≡ total t.maps (of_class c rs) + total t.maps (put c r.class r.piece [])
  total_push c rs r = ap (total t.maps) (of_class_append c rs (r ∷ [])) ∙ sum_by-append t.maps.count (of_class c rs) (put c r.class r.piece [])

  same_points : (a b e i j k : ℕ) → a ≡ i → b ≡ j → e ≡ k → ◌≡◌ {A = Points} (record { inside = a; outside = b; undecided = e }) (record { inside = i; outside = j; undecided = k })
  same_points a b e i j k p q r = ap₂ (λ (m n : ℕ). record { inside = m; outside = n; undecided = e }) p q ∙ ap (λ (n : ℕ). record { inside = i; outside = j; undecided = n }) r

  plus_put : (q : Points) (k : Class) (p : P) (a b e : ℕ) → a ≡ q.inside + total t.maps (put Inside k p []) → b ≡ q.outside + total t.maps (put Outside k p []) → e ≡ q.undecided + total t.maps (put Undecided k p []) → plus q k (t.maps.count p) ≡ record { inside = a; outside = b; undecided = e }
  plus_put q Inside p a b e i o u = same_points _ _ _ _ _ _ (omega (arith, i, sum_by-cons t.maps.count p [])) (omega (arith, o)) (omega (arith, u))
  plus_put q Outside p a b e i o u = same_points _ _ _ _ _ _ (omega (arith, i)) (omega (arith, o, sum_by-cons t.maps.count p [])) (omega (arith, u))
  plus_put q Undecided p a b e i o u = same_points _ _ _ _ _ _ (omega (arith, i)) (omega (arith, o)) (omega (arith, u, sum_by-cons t.maps.count p []))

  pub plus_more : (rs : List (Record P)) (r : Record P) → plus (points_of t rs) r.class (t.maps.count r.piece) ≡ points_of t (rs ++ r ∷ [])
  plus_more rs r = plus_put (points_of t rs) r.class r.piece _ _ _ (total_push Inside rs r) (total_push Outside rs r) (total_push Undecided rs r)

  -- the points of one class, with so many more, are no more than all points then
  plus_in : (q : Points) (k : Class) (n : ℕ) → points_at q k + n ≤ points_in (plus q k n)
  plus_in q Inside n = omega arith
  plus_in q Outside n = omega arith
  plus_in q Undecided n = omega arith

  points_append : (rs qs : List (Record P)) → points_in (points_of t (rs ++ qs)) ≡ points_in (points_of t rs) + points_in (points_of t qs)
  points_append rs qs = omega (arith, at Inside, at Outside, at Undecided)
    where
      at : (c : Class) → total t.maps (of_class c (rs ++ qs)) ≡ total t.maps (of_class c rs) + total t.maps (of_class c qs)
      at c = ap (total t.maps) (of_class_append c rs qs) ∙ sum_by-append t.maps.count (of_class c rs) (of_class c qs)

  pub points_room : (rs : List (Record P)) (r : Record P) (qs : List (Record P)) (m : ℕ) → points_in (points_of t ((rs ++ r ∷ []) ++ qs)) < m → points_at (points_of t rs) r.class + t.maps.count r.piece < m
  points_room rs r qs m h = omega (arith, plus_in (points_of t rs) r.class (t.maps.count r.piece), ap points_in (plus_more rs r), points_append (rs ++ r ∷ []) qs)

-- so far these of a list, then this one, then the others
pub passed : {X : Type 0} (xs ys : List X) (n : ℕ) (y : X) → ys ≡ take n xs → n < length xs → y ≡ get_or xs n y → (ys ++ y ∷ []) ++ drop (n + 1) xs ≡ xs
passed xs ys n y e h f = ap (λ zs. zs ++ drop (n + 1) xs) (ap₂ (λ zs z. zs ++ z ∷ []) e f ∙ sym (take_more xs n y h)) ∙ take-append-drop (n + 1) xs

pub total_reverse : {P : Type 0} (d : Maps P) (ps : List P) → total d (reverse ps) ≡ total d ps
total_reverse d [] = refl
total_reverse d (p ∷ ps) =
    omega (arith, ap (total d) (reverse-append (p ∷ []) ps), sum_by-append d.count (reverse ps) (p ∷ []), total_reverse d ps, sum_by-cons d.count p ps, sum_by-cons d.count p [])

module _ {P : Type 0} (t : Task P) (l : Laws t.maps) (set : ℕ → Bool) (sound : Sound t.maps (meaning set t.keep t.shed)) (s : Store P) (x : State P) (k : Kept t set x) (h : Shows t s x) where
  pub take_none : rolled s.roll ≡ [] → (take_answer (Err RollEmpty) ≡ (turn t Take x).value) × Shows t s (turn t Take x).after
  take_none w =
      let e : take_oldest x ≡ Err RollEmpty = ap (take_from x) (sym h.roll ∙ w) in
      (sym (ap (λ q. (answered Took q x).value) e), subst (λ q. Shows t s (answered Took q x).after) (sym e) h)

  small_waiting : total t.maps (waiting s.pile) < 2 ^ 64
  small_waiting = omega (arith, (sum_law t l set x k).tally_added, count_height t.maps l 24 t.start (l.height_most t.start), ap (total t.maps) h.pile)

  small_roll : points_in (points_of t (rolled s.roll)) < 2 ^ 64
  small_roll = omega (arith, (sum_law t l set x k).tally_added, count_height t.maps l 24 t.start (l.height_most t.start), ap (λ rs. points_in (points_of t rs)) h.roll)

  -- the counts of a sheet are those of its start, and small
  pub small_counts : (total t.maps (waiting s.pile) < 2 ^ 64) × (points_in (points_of t (rolled s.roll)) < 2 ^ 64)
  small_counts = (small_waiting, small_roll)

  small_taken : (q : Record P) (rs : List (Record P)) → rolled s.roll ≡ q ∷ rs → points_at s.taken q.class + t.maps.count q.piece < 2 ^ 64
  small_taken q rs w =
      let f = sym h.roll ∙ w in
      let told = (sum_law t l set (one_taken x) ((keeps t l set sound).on_take x k q rs f)).tally_added in
      let few = count_height t.maps l 24 t.start (l.height_most t.start) in
      omega (arith, told, few, ap (λ ys. points_in (points_of t ys)) (next_taken x.taken x.made q rs f).0, ap (λ y. points_in (plus y q.class (t.maps.count q.piece))) h.taken, ap points_in (plus_more t (gone x) q), plus_in t s.taken q.class (t.maps.count q.piece))

  -- what is taken is the oldest on the roll, its points are added to those taken, and the sum is small
  pub take_shows : (q : Record P) (left : Roll P) (p : Points) → rolled s.roll ≡ q ∷ rolled left → p ≡ plus s.taken q.class (t.maps.count q.piece) → (take_answer (Ok q) ≡ (turn t Take x).value) × Shows t (record { pile = s.pile; roll = left; taken = p; steps = s.steps; next_label = s.next_label }) (turn t Take x).after × (points_at s.taken q.class + t.maps.count q.piece < 2 ^ 64)
  take_shows q left p w e =
      let f = sym h.roll ∙ w in
      let n = next_taken x.taken x.made q (rolled left) f in
      let o : take_oldest x ≡ Ok (outcome q (one_taken x)) = ap (take_from x) f in
      let v : Store P = record { pile = s.pile; roll = left; taken = p; steps = s.steps; next_label = s.next_label } in
      let shown : Shows t v (one_taken x) =
      record {
        pile = h.pile;
        roll = sym n.1;
        taken = e ∙ ap (λ y. plus y q.class (t.maps.count q.piece)) h.taken ∙ plus_more t (gone x) q ∙ ap (points_of t) (sym n.0);
        steps = h.steps;
        label = h.label;
      } in
      (sym (ap (λ r. (answered Took r x).value) o), subst (λ r. Shows t v (answered Took r x).after) (sym o) shown, small_taken q (rolled left) w)

  pub tally_shows : (w : ℕ) (q : Points) → (total t.maps (waiting s.pile) < 2 ^ 64 → w ≡ total t.maps (waiting s.pile)) → (points_in (points_of t (rolled s.roll)) < 2 ^ 64 → q ≡ points_of t (rolled s.roll)) → ◌≡◌ {A = Answer P} (Tallied (record { waiting = w; roll = q; taken = s.taken; steps = s.steps; next_label = s.next_label })) (Tallied (tally t x))
  tally_shows w q a b =
      ap₂ (λ (i : ℕ) (j : Points). Tallied (record { waiting = i; roll = j; taken = s.taken; steps = s.steps; next_label = s.next_label })) (a small_waiting ∙ ap (total t.maps) h.pile) (b small_roll ∙ ap (points_of t) h.roll)
      ∙ ap₂ (λ (j : Points) (i : ℕ). Tallied (record { waiting = total t.maps x.waiting; roll = points_of t (roll x); taken = j; steps = i; next_label = s.next_label })) h.taken h.steps
      ∙ ap (λ (i : ℕ). Tallied (record { waiting = total t.maps x.waiting; roll = points_of t (roll x); taken = points_of t (gone x); steps = x.steps; next_label = i })) h.label

module _ {C P : Type 0} {g : Contractor.Ghosts C P} {e : Domain.Ghosts P} (l : Laws e.maps) (sound : (c : C) → Sound e.maps (means g c)) (s : Sheet C P g e) where
  abbrev t : Task P
  t = task_of e.maps (means g) s

  pub waiting_fits : total e.maps (waiting s.store.pile) < 2 ^ 64
  waiting_fits = made_below l sound s _ _ (small_waiting t l (g.set s.contractor) (sound s.contractor) s.store)

  pub roll_fits : points_in (points_of t (rolled s.store.roll)) < 2 ^ 64
  roll_fits = made_below l sound s _ _ (small_roll t l (g.set s.contractor) (sound s.contractor) s.store)

  pub taken_fits : (q : Record P) (rs : List (Record P)) → rolled s.store.roll ≡ q ∷ rs → points_at s.store.taken q.class + e.maps.count q.piece < 2 ^ 64
  taken_fits q rs w = made_below l sound s _ _ (λ x k h. small_taken t l (g.set s.contractor) (sound s.contractor) s.store x k h q rs w)

  -- the store with another roll, and other points taken
  abbrev taken_store : Roll P → Points → Store P
  taken_store left p = record { pile = s.store.pile; roll = left; taken = p; steps = s.store.steps; next_label = s.store.next_label }

  pub take_refused : (left : Roll P) → rolled s.store.roll ≡ [] → left ≡ s.store.roll → Does t (g.set s.contractor) Take s.store (take_answer (Err RollEmpty)) (taken_store left s.store.taken)
  take_refused left w e x k h =
      subst (λ r. (take_answer (Err RollEmpty) ≡ (turn t Take x).value) × Shows t (taken_store r s.store.taken) (turn t Take x).after) (sym e)
      (take_none t l (g.set s.contractor) (sound s.contractor) s.store x k h w)

  pub take_does : (q : Record P) (left : Roll P) (p : Points) (n : ℕ) → rolled s.store.roll ≡ q ∷ rolled left → p ≡ plus s.store.taken q.class n → n ≡ e.maps.count q.piece → Does t (g.set s.contractor) Take s.store (take_answer (Ok q)) (taken_store left p)
  take_does q left p n w a b x k h =
      let r = take_shows t l (g.set s.contractor) (sound s.contractor) s.store x k h q left p w (a ∙ ap (plus s.store.taken q.class) b) in (r.0, r.1)

  pub tally_does : (w : ℕ) (q : Points) → w ≡ total e.maps (waiting s.store.pile) → q ≡ points_of t (rolled s.store.roll) → Does t (g.set s.contractor) TallyTurn s.store (Tallied (record { waiting = w; roll = q; taken = s.store.taken; steps = s.store.steps; next_label = s.store.next_label })) s.store
  tally_does w q a b x k h = (tally_shows t l (g.set s.contractor) (sound s.contractor) s.store x k h w q (λ _. a) (λ _. b), h)
