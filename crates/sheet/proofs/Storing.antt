-- Records noted one after another.
use Rattle.std.proofs.Common.{◌≡◌, ℕ, suc, ◌+◌, ◌≤◌, List, [], ◌∷◌, ◌++◌, length, Some, None, Option, sym, refl, ap, ◌∙◌, subst, ap₂, arith}
use mir.Val.{bool_byte}
use Rattle.std.proofs.lemmas.List.{append-nil, append_assoc, length-append, length-map, map-append}
use Rattle.std.proofs.lemmas.Iterator.{YieldsList}
use Rattle.std.proofs.lemmas.Iterator.Consumers.{YieldsList-from_shown}
use Rattle.std.specs.Option.{is_some, option_to_list}
use Rattle.domain.specs.Maps.{listed}
use Rattle.domain.specs.declared.strip_slots.Strips.{Strips}
use Rattle.paving.specs.Steps.{Entry, entries, labelled}
use Rattle.paving.specs.declared.classes.Class.{Class}
use Rattle.paving.proofs.Keeping.{labelled_length}
use Rattle.paving.specs.declared.classes.Class.TheVariants.{Inside, Outside, Undecided}
use Rattle.sheet.specs.Cuts.{cut_entries}
use Rattle.sheet.specs.declared.cut.Cut.{Cut}
use Rattle.sheet.specs.Rolls.{rolled}
use Rattle.sheet.specs.Stores.{Noted, Room}
use Rattle.sheet.specs.declared.store.Store.{Store}
use Rattle.sheet.proofs.Rolling.{rolled_length}

pub labelled_append : {P : Type 0} (n : ℕ) (es fs : List (Entry P)) → labelled n (es ++ fs) ≡ labelled n es ++ labelled (n + length es) fs
labelled_append n [] fs = ap (λ (k : ℕ). labelled k fs) (let e : n ≡ n + 0 = omega arith in e)
labelled_append n (e ∷ es) fs =
    ap (λ rs. record { label = n; class = e.class; piece = e.piece } ∷ rs)
    (labelled_append (suc n) es fs ∙ ap (λ (k : ℕ). labelled (suc n) es ++ labelled k fs) (let e : suc n + length es ≡ n + suc (length es) = omega arith in e))

pub noted_none : {P : Type 0} (s : Store P) → Noted s [] s
noted_none s = record { roll = sym (append-nil (rolled s.roll)); label = omega arith; pile = refl; taken = refl; steps = refl }

pub noted_append : {P : Type 0} (s u v : Store P) (es fs : List (Entry P)) → Noted s es u → Noted u fs v → Noted s (es ++ fs) v
noted_append s u v es fs a b =
    record {
      roll =
          b.roll ∙ ap₂ (λ rs (k : ℕ). rs ++ labelled k fs) a.roll a.label
          ∙ append_assoc (rolled s.roll) (labelled s.next_label es) (labelled (s.next_label + length es) fs)
          ∙ ap (λ rs. rolled s.roll ++ rs) (sym (labelled_append s.next_label es fs));
      label = omega (arith, a.label, b.label, length-append es fs);
      pile = b.pile ∙ a.pile;
      taken = b.taken ∙ a.taken;
      steps = b.steps ∙ a.steps;
    }

pub noted_len : {P : Type 0} (s u : Store P) (es : List (Entry P)) → Noted s es u → u.roll.len ≡ s.roll.len + length es
noted_len s u es a =
    omega (arith, ap length a.roll, length-append (rolled s.roll) (labelled s.next_label es), labelled_length s.next_label es, rolled_length s.roll, rolled_length u.roll)

-- the strips are given one by one
pub strips_yield : {P : Type 0} (s : Strips P) → YieldsList (λ a r b. (listed a ≡ option_to_list r ++ listed b) × (r ≡ None → listed a ≡ [])) (λ p. p) s (listed s)
strips_yield s =
    YieldsList-from_shown (λ a r b. (listed a ≡ option_to_list r ++ listed b) × (r ≡ None → listed a ≡ [])) (λ p. p) listed
    (λ a b h. ap length (h.1 refl)) (λ a p b h. h.0) s

-- what is left of the room for n records more
pub room_left : {P : Type 0} (s u : Store P) (es : List (Entry P)) (n m : ℕ) → Noted s es u → length es + m ≤ n → Room s n → Room u m
room_left s u es n m a h r = record { places = omega (arith, r.places, h, noted_len s u es a); labels = omega (arith, r.labels, h, a.label) }

-- pieces of one class, one list after another
pub noted_entries : {P : Type 0} (s u v : Store P) (c : Class) (ps qs : List P) → Noted s (entries c ps) u → Noted u (entries c qs) v → Noted s (entries c (ps ++ qs)) v
noted_entries s u v c ps qs a b =
    subst (λ es. Noted s es v) (sym (map-append (λ q. record { class = c; piece = q }) ps qs))
    (noted_append s u v (entries c ps) (entries c qs) a b)

pub option_to_list_length : {P : Type 0} (o : Option P) → length (option_to_list o) ≤ 1
option_to_list_length None = omega arith
option_to_list_length (Some p) = omega arith

pub some_counted : {P : Type 0} (o : Option P) → bool_byte (is_some o) ≡ length (option_to_list o)
some_counted None = refl
some_counted (Some p) = refl

pub listed_length : {P : Type 0} (s : Strips P) → length (listed s) ≤ 4
listed_length s =
    omega (arith, length-append (option_to_list s.first) (option_to_list s.second ++ (option_to_list s.third ++ option_to_list s.fourth)), length-append (option_to_list s.second) (option_to_list s.third ++ option_to_list s.fourth), length-append (option_to_list s.third) (option_to_list s.fourth), option_to_list_length s.first, option_to_list_length s.second, option_to_list_length s.third, option_to_list_length s.fourth)

pub entries_length : {P : Type 0} (c : Class) (ps : List P) → length (entries c ps) ≡ length ps
entries_length c ps = length-map ps (λ q. record { class = c; piece = q })

pub cut_length : {P : Type 0} (c : Cut P) → length (cut_entries c) ≡ length (listed c.outside) + length (listed c.inside) + length (option_to_list c.undecided)
cut_length c =
    omega (arith, length-append (entries Outside (listed c.outside)) (entries Inside (listed c.inside) ++ entries Undecided (option_to_list c.undecided)), length-append (entries Inside (listed c.inside)) (entries Undecided (option_to_list c.undecided)), entries_length Outside (listed c.outside), entries_length Inside (listed c.inside), entries_length Undecided (option_to_list c.undecided))
