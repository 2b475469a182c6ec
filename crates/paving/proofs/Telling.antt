-- The sum law: the start is shared out, tally adds up to it, and find gives the one place of a point.
use Rattle.std.proofs.Common.{◌≡◌, ℕ, ◌+◌, ◌<◌, ◌≤◌, Bool, true, false, cond, ◌||◌, ◌⊎◌, List, [], ◌∷◌, ◌++◌, Ok, Err, sym, refl, ap, ◌∙◌, subst, inl, inr, arith}
use Rattle.std.proofs.ByRecursion.{All-append}
use Rattle.std.proofs.lemmas.List.{append_assoc, map-append, take-append-drop}
use Rattle.std.proofs.lemmas.List.Sums.{sum_by-append}
use Rattle.std.proofs.lemmas.Bool.{false≢true}
use Rattle.scan.specs.Count.{bit}
use Rattle.scan.proofs.Counting.{bit_le, bit_true}
use Rattle.domain.specs.Laws.{Laws}
use Rattle.domain.specs.Maps.{Maps, Inside as Within, times, total, Parts}
use Rattle.domain.specs.Refusals.{Given}
use Rattle.domain.specs.declared.refusal.Refusal.TheVariants.{NotAPoint}
use Rattle.domain.proofs.Totals.{times_cons, times_append, total_parts}
use Rattle.paving.specs.Laws.{all_pieces, points_told, Counts, Lies, times_lying, Sum}
use Rattle.paving.specs.Sheet.{Task, State, roll, gone, pieces, of_class, put}
use Rattle.paving.specs.Turns.{held, place_of, place_on, find, tally}
use Rattle.paving.specs.declared.classes.Class.{Class}
use Rattle.paving.specs.declared.classes.Class.TheVariants.{Inside as inside, Outside as outside, Undecided as undecided}
use Rattle.paving.specs.declared.places.Place.{Place}
use Rattle.paving.specs.declared.places.Place.TheVariants.{Waiting, Taken}
use Rattle.paving.specs.declared.records.Record.{Record}
use Rattle.paving.proofs.Keeping.{Kept, pieces_times}
use Rattle.paving.proofs.Sums.{put_is, by_class}

-- one piece more of a class, or of another
put_same : {P : Type 0} (c : Class) (p : P) (ps : List P) → put c c p ps ≡ p ∷ ps
put_same inside p ps = refl
put_same outside p ps = refl
put_same undecided p ps = refl

module _ {P : Type 0} (d : Maps P) (n : ℕ) where
  put_more : (c e : Class) (p : P) (ps : List P) → times d n ps ≤ times d n (put c e p ps)
  put_more c e p ps =
      elim (put_is c e p ps) [ inl h ↦ omega (arith, ap (times d n) h.1, times_cons d n p ps) | inr h ↦ omega (arith, ap (times d n) h) ]

module _ {P : Type 0} (t : Task P) (n : ℕ) where
  -- what a search through the pile finds
  held_times : (ps : List P) → ((held t n ps ≡ true) × (0 < times t.maps n ps)) ⊎ ((held t n ps ≡ false) × (times t.maps n ps ≡ 0))
  held_times [] = inr (refl, refl)
  held_times (p ∷ ps) = go (t.maps.holds p n) refl (held_times ps)
    where
      go : (b : Bool) → t.maps.holds p n ≡ b → ((held t n ps ≡ true) × (0 < times t.maps n ps)) ⊎ ((held t n ps ≡ false) × (times t.maps n ps ≡ 0)) → (((b || held t n ps) ≡ true) × (0 < times t.maps n (p ∷ ps))) ⊎ (((b || held t n ps) ≡ false) × (times t.maps n (p ∷ ps) ≡ 0))
      go true e h = inl (refl, omega (arith, times_cons t.maps n p ps, ap bit e))
      go false e (inl h) = inl (h.0, omega (arith, times_cons t.maps n p ps, h.1))
      go false e (inr h) = inr (h.0, omega (arith, times_cons t.maps n p ps, ap bit e, h.1))

  -- what a search through the roll finds
  abbrev OnRoll : Place → List (Record P) → Type 0
  OnRoll p rs = ((p ≡ Taken) × (times t.maps n (pieces rs) ≡ 0)) ⊎ ((c : Class) × (p ≡ place_of c) × (0 < times t.maps n (of_class c rs)))

  place_times : (rs : List (Record P)) → OnRoll (place_on t n rs) rs
  place_times [] = inl (refl, refl)
  place_times (r ∷ rs) = go (t.maps.holds r.piece n) refl (place_times rs)
    where
      go : (b : Bool) → t.maps.holds r.piece n ≡ b → OnRoll (place_on t n rs) rs → OnRoll (elim b [ true ↦ place_of r.class | false ↦ place_on t n rs ]) (r ∷ rs)
      go true e h = inr (r.class, refl, omega (arith, ap (times t.maps n) (put_same r.class r.piece (of_class r.class rs)), times_cons t.maps n r.piece (of_class r.class rs), ap bit e))
      go false e (inl h) = inl (h.0, omega (arith, times_cons t.maps n r.piece (pieces rs), ap bit e, h.1))
      go false e (inr h) = inr (h.0, h.1, omega (arith, h.2, put_more t.maps n h.0 r.class r.piece (of_class h.0 rs)))

module _ {P : Type 0} (t : Task P) (l : Laws t.maps) (set : ℕ → Bool) (s : State P) (k : Kept t set s) where
  -- all records are taken or on the roll
  roll_times : (n : ℕ) → times t.maps n (pieces (gone s)) + times t.maps n (pieces (roll s)) ≡ times t.maps n (pieces s.made)
  roll_times n = sym (pieces_times t.maps n (gone s) (roll s)) ∙ ap (λ rs. times t.maps n (pieces rs)) (take-append-drop s.taken s.made)

  within : Within t.maps t.start (all_pieces s)
  within =
      subst (Within t.maps t.start) (append_assoc (pieces (gone s)) (pieces (roll s)) s.waiting)
      (All-append (λ p. t.maps.within p t.start ≡ true) (pieces (gone s) ++ pieces (roll s)) s.waiting
      (subst (Within t.maps t.start) (ap pieces (sym (take-append-drop s.taken s.made)) ∙ map-append (λ r. r.piece) (gone s) (roll s)) k.made_within) k.waiting_within)

  shared : Parts t.maps t.start (all_pieces s)
  shared n =
      omega (arith, times_append t.maps n (pieces (gone s)) (pieces (roll s) ++ s.waiting), times_append t.maps n (pieces (roll s)) s.waiting, roll_times n, k.shares n)

  added : total t.maps (pieces (gone s)) + total t.maps (pieces (roll s)) + total t.maps s.waiting ≡ t.maps.count t.start
  added =
      omega (arith, total_parts t.maps l t.start (all_pieces s) shared, sum_by-append t.maps.count (pieces (gone s)) (pieces (roll s) ++ s.waiting), sum_by-append t.maps.count (pieces (roll s)) s.waiting)

  counted : Counts t s (tally t s)
  counted =
      record {
        waiting_points = refl;
        roll_points = elim [ inside ↦ refl | outside ↦ refl | undecided ↦ refl ];
        taken_points = elim [ inside ↦ refl | outside ↦ refl | undecided ↦ refl ];
        accepted_steps = refl;
        next = refl;
      }

  tally_added : points_told (tally t s) ≡ t.maps.count t.start
  tally_added = omega (arith, added, by_class t.maps.count (gone s), by_class t.maps.count (roll s))

  module _ (n : ℕ) where
    classes : times t.maps n (pieces (roll s)) ≡ times t.maps n (of_class inside (roll s)) + times t.maps n (of_class outside (roll s)) + times t.maps n (of_class undecided (roll s))
    classes = by_class (λ p. cond (t.maps.holds p n) 1 0) (roll s)

    one_place : times_lying t.maps s n ≡ bit (t.maps.holds t.start n)
    one_place = omega (arith, classes, roll_times n, k.shares n)

    -- where it is found, it is once
    class_lies : (c : Class) → 0 < times t.maps n (of_class c (roll s)) → Lies t.maps s n (place_of c)
    class_lies inside h = omega (arith, one_place, bit_le (t.maps.holds t.start n))
    class_lies outside h = omega (arith, one_place, bit_le (t.maps.holds t.start n))
    class_lies undecided h = omega (arith, one_place, bit_le (t.maps.holds t.start n))

    roll_lies : (p : Place) → t.maps.holds t.start n ≡ true → times t.maps n s.waiting ≡ 0 → OnRoll t n p (roll s) → Lies t.maps s n p
    roll_lies p h w (inl e) = subst (Lies t.maps s n) (sym e.0) (omega (arith, one_place, classes, e.1, bit_true (t.maps.holds t.start n) h))
    roll_lies p h w (inr e) = subst (Lies t.maps s n) (sym e.1) (class_lies e.0 e.2)

    pile_lies : t.maps.holds t.start n ≡ true → Lies t.maps s n (elim (held t n s.waiting) [ true ↦ Waiting | false ↦ place_on t n (roll s) ])
    pile_lies h = go (held t n s.waiting) (held_times t n s.waiting)
      where
        go : (b : Bool) → ((b ≡ true) × (0 < times t.maps n s.waiting)) ⊎ ((b ≡ false) × (times t.maps n s.waiting ≡ 0)) → Lies t.maps s n (elim b [ true ↦ Waiting | false ↦ place_on t n (roll s) ])
        go true (inl e) = omega (arith, one_place, e.1, bit_le (t.maps.holds t.start n))
        go true (inr e) = absurd (false≢true (sym e.0))
        go false (inl e) = absurd (false≢true e.0)
        go false (inr e) = roll_lies (place_on t n (roll s)) h e.1 (place_times t n (roll s))

    found : Given (find t n s) 14 (t.maps.holds t.start n ≡ true) (Lies t.maps s n)
    found = go (t.maps.holds t.start n) refl
      where
        go : (b : Bool) → t.maps.holds t.start n ≡ b → Given (elim b [ true ↦ Ok (elim (held t n s.waiting) [ true ↦ Waiting | false ↦ place_on t n (roll s) ]) | false ↦ Err NotAPoint ]) 14 (t.maps.holds t.start n ≡ true) (Lies t.maps s n)
        go true e = (e, pile_lies e)
        go false e = ((λ f. false≢true (sym e ∙ f)), refl)

  pub sum_law : Sum t s
  sum_law = record { within = within; shared = shared; added = added; tallied = counted; tally_added = tally_added; found = found; one_place = one_place }
