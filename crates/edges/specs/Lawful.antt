-- Two rails keep the laws of a domain.
use Rattle.std.specs.Prelude.{◌≡◌, ℕ, ◌+◌, ◌<◌, ◌≤◌, Bool, true, false, cond, List, [], ◌∷◌, length, Some, None, Option, MatchOption, ◌==◌, nat_le, nat_lt, refl}
use Rattle.std.proofs.Common.{arith, inl, inr, sym, ap, ap₂, subst, ◌∙◌}
use Rattle.std.specs.List.Sorted.{IsPermutation}
use Rattle.std.proofs.lemmas.List.Sorted.{sum_by-IsPermutation}
use Rattle.std.proofs.lemmas.List.Sums.{count_by-le-length}
use Rattle.std.proofs.lemmas.Bool.{cases_Bool, cases_eq, both_ways, eqb-true, leb-true, ltb-true, lt-leb, le-leb, false≢true}
use Rattle.std.proofs.lemmas.Bool.Decides.{nat_tests}
use Rattle.scan.specs.Count.{bit, count_below}
use Rattle.scan.proofs.Counting.{from_to, count_from_to, sum_ext}
use Rattle.domain.specs.Laws.{Laws}
use Rattle.domain.specs.Maps.{points, times, Parts, Inside, Fits, Holds}
use Rattle.domain.proofs.Totals.{times_cons, times_single, times_held}
use Rattle.edges.specs.declared.rail.Rail.{Rail}
use Rattle.edges.specs.declared.rail.Rail.TheVariants.{Port, Starboard, Both}
use Rattle.edges.specs.Rails.{holds, count, number, numbered, within, halves, strips, joined, span, of_points, deep, gather, height, rails}

-- where a piece's points begin and end
low : Rail → ℕ
low Port = 0
low Starboard = 1
low Both = 0

holds_bit : (p : Rail) (n : ℕ) → bit (holds p n) ≡ bit (from_to (low p) (low p + count p) n)
unfolding low
holds_bit Port n = grind (arith, nat_tests)
holds_bit Starboard n = grind (arith, nat_tests)
holds_bit Both n = grind (arith, nat_tests)

low_most : (p : Rail) → low p + count p ≤ 2
unfolding low
low_most Port = omega arith
low_most Starboard = omega arith
low_most Both = omega arith

counted : (p : Rail) → count p ≡ count_below (holds p) points
counted p =
    sym (sum_ext (λ n. bit (holds p n)) (λ n. bit (from_to (low p) (low p + count p) n)) points (λ n _. holds_bit p n)
    ∙ omega (arith, count_from_to (low p) (low p + count p) points, low_most p))

some : (p : Rail) → 0 < count p
some Port = omega arith
some Starboard = omega arith
some Both = omega arith

reflexive : (p : Rail) → within p p ≡ true
reflexive Port = refl
reflexive Starboard = refl
reflexive Both = refl

transitive : (p q r : Rail) → within p q ≡ true → within q r ≡ true → within p r ≡ true
transitive p q Both v w = refl
transitive Port q Port v w = refl
transitive Starboard Port Port v w = v
transitive Starboard Starboard Port v w = w
transitive Starboard Both Port v w = w
transitive Both Port Port v w = v
transitive Both Starboard Port v w = w
transitive Both Both Port v w = w
transitive Port Port Starboard v w = w
transitive Port Starboard Starboard v w = v
transitive Port Both Starboard v w = w
transitive Starboard q Starboard v w = refl
transitive Both Port Starboard v w = v
transitive Both Starboard Starboard v w = v
transitive Both Both Starboard v w = w

held : (q p : Rail) → within q p ≡ true → (n : ℕ) → holds q n ≡ true → holds p n ≡ true
held Port Port w n h = h
held Port Starboard w n h = absurd (false≢true w)
held Port Both w n h = grind (arith, nat_tests)
held Starboard Port w n h = absurd (false≢true w)
held Starboard Starboard w n h = h
held Starboard Both w n h = grind (arith, nat_tests)
held Both Port w n h = absurd (false≢true w)
held Both Starboard w n h = absurd (false≢true w)
held Both Both w n h = h

whole : (q p : Rail) → within q p ≡ true → count q ≡ count p → q ≡ p
whole Port Port w e = refl
whole Port Starboard w e = absurd (false≢true w)
whole Port Both w e = absurd (omega arith)
whole Starboard Port w e = absurd (false≢true w)
whole Starboard Starboard w e = refl
whole Starboard Both w e = absurd (omega arith)
whole Both Port w e = absurd (false≢true w)
whole Both Starboard w e = absurd (false≢true w)
whole Both Both w e = refl

numbered_back : (p : Rail) → numbered (number p) ≡ Some p
numbered_back Port = refl
numbered_back Starboard = refl
numbered_back Both = refl

rail_in : (q p : Rail) → Some q ≡ Some p → number p ≡ number q
rail_in q p e = let f : p ≡ q = cc in ap number f

nothing : (p : Rail) → ◌≡◌ {A = Option Rail} None (Some p) → ⊥
nothing p e = let z : ◌≡◌ {A = ℕ} 0 1 = cc in omega arith

named_by : (n : ℕ) (p : Rail) (a b c : Bool) → (n == 0) ≡ a → (n == 1) ≡ b → (n == 2) ≡ c → elim a [ true ↦ Some Port | false ↦ elim b [ true ↦ Some Starboard | false ↦ elim c [ true ↦ Some Both | false ↦ None ] ] ] ≡ Some p → number p ≡ n
named_by n p true b c u v w e = rail_in Port p e ∙ sym (eqb-true n 0 u)
named_by n p false true c u v w e = rail_in Starboard p e ∙ sym (eqb-true n 1 v)
named_by n p false false true u v w e = rail_in Both p e ∙ sym (eqb-true n 2 w)
named_by n p false false false u v w e = absurd (nothing p e)

named : (n : ℕ) (p : Rail) → numbered n ≡ Some p → number p ≡ n
named n p e = named_by n p (n == 0) (n == 1) (n == 2) refl refl refl e

two_points : (n : ℕ) → bit (n == 0) + bit (n == 1) ≡ bit (nat_lt n 2)
two_points n = grind (arith, nat_tests)

halved : (p : Rail) → 1 < count p → Parts rails p ((halves p).0 ∷ (halves p).1 ∷ [])
halved Port h n = absurd (omega arith)
halved Starboard h n = absurd (omega arith)
halved Both h n =
    times_cons rails n Port (Starboard ∷ []) ∙ ap (λ (k : ℕ). bit (n == 0) + k) (times_single rails n Starboard) ∙ two_points n

halves_within : (p : Rail) → 1 < count p → Inside rails p ((halves p).0 ∷ (halves p).1 ∷ [])
halves_within Port h = absurd (omega arith)
halves_within Starboard h = absurd (omega arith)
halves_within Both h = (refl, (refl, tt))

stripped : (p q : Rail) → within q p ≡ true → Parts rails p (q ∷ strips p q)
stripped Port Port w n = times_single rails n Port
stripped Port Starboard w n = absurd (false≢true w)
stripped Port Both w n = absurd (false≢true w)
stripped Starboard Port w n = absurd (false≢true w)
stripped Starboard Starboard w n = times_single rails n Starboard
stripped Starboard Both w n = absurd (false≢true w)
stripped Both Port w n =
    times_cons rails n Port (Starboard ∷ []) ∙ ap (λ (k : ℕ). bit (n == 0) + k) (times_single rails n Starboard) ∙ two_points n
stripped Both Starboard w n =
    times_cons rails n Starboard (Port ∷ [])
    ∙ ap (λ (k : ℕ). bit (n == 1) + k) (times_single rails n Port)
    ∙ omega (arith, two_points n)
stripped Both Both w n = times_single rails n Both

strips_within : (p q : Rail) → within q p ≡ true → Inside rails p (strips p q)
strips_within Port q w = tt
strips_within Starboard q w = tt
strips_within Both Port w = (refl, tt)
strips_within Both Starboard w = (refl, tt)
strips_within Both Both w = tt

strips_few : (p q : Rail) → within q p ≡ true → length (strips p q) ≤ 4
strips_few Port q w = omega arith
strips_few Starboard q w = omega arith
strips_few Both Port w = omega arith
strips_few Both Starboard w = omega arith
strips_few Both Both w = omega arith

joined_holds : (p q : Rail) → (within p (joined p q) ≡ true) × (within q (joined p q) ≡ true)
joined_holds Port Port = (refl, refl)
joined_holds Port Starboard = (refl, refl)
joined_holds Port Both = (refl, refl)
joined_holds Starboard Port = (refl, refl)
joined_holds Starboard Starboard = (refl, refl)
joined_holds Starboard Both = (refl, refl)
joined_holds Both q = (refl, refl)

-- a rail that is within one rail is that rail
port_only : (p : Rail) → within p Port ≡ true → p ≡ Port
port_only Port w = refl
port_only Starboard w = absurd (false≢true w)
port_only Both w = absurd (false≢true w)

starboard_only : (p : Rail) → within p Starboard ≡ true → p ≡ Starboard
starboard_only Port w = absurd (false≢true w)
starboard_only Starboard w = refl
starboard_only Both w = absurd (false≢true w)

span_within : (x p q : Rail) → within p x ≡ true → within q x ≡ true → MatchOption (span x (Some p) (Some q)) ⊥ (λ s. (within s x ≡ true) × (within p s ≡ true) × (within q s ≡ true))
span_within Both p q v w = (refl, (joined_holds p q).0, (joined_holds p q).1)
span_within Port p q v w = (ap₂ (λ a b. within (joined a b) Port) (port_only p v) (port_only q w), (joined_holds p q).0, (joined_holds p q).1)
span_within Starboard p q v w = (ap₂ (λ a b. within (joined a b) Starboard) (starboard_only p v) (starboard_only q w), (joined_holds p q).0, (joined_holds p q).1)

-- a point that no listed sub-piece of x can hold is not deep
shallow : (x : Rail) (ps : List Rail) (k n : ℕ) → 0 < k → Inside rails x ps → holds x n ≡ false → deep ps k n ≡ false
shallow x ps k n some a f =
    elim (cases_Bool (deep ps k n)) [
      | inl d ↦
          absurd (both_ways (holds x n) f (times_held rails x n (λ q w. held q x w n) ps a (omega (arith, leb-true k (times rails n ps) d))))
      | inr d ↦ d
    ]

gather_within : (x : Rail) (ps : List Rail) (k : ℕ) → 0 < k → Inside rails x ps → Fits rails x (gather x ps k)
gather_within Both ps k some a = within_both (gather Both ps k)
  where
    within_both : (o : Option Rail) → Fits rails Both o
    within_both None = tt
    within_both (Some p) = refl
gather_within Port ps k some a = only_port (deep ps k 0) (deep ps k 1) (shallow Port ps k 1 some a refl)
  where
    only_port : (b c : Bool) → c ≡ false → Fits rails Port (of_points b c)
    only_port b true e = absurd (false≢true (sym e))
    only_port true false e = refl
    only_port false false e = tt
gather_within Starboard ps k some a = only_starboard (deep ps k 0) (deep ps k 1) (shallow Starboard ps k 0 some a refl)
  where
    only_starboard : (b c : Bool) → b ≡ false → Fits rails Starboard (of_points b c)
    only_starboard true c e = absurd (false≢true (sym e))
    only_starboard false true e = refl
    only_starboard false false e = tt

port_held : (b c : Bool) → b ≡ true → Holds rails (of_points b c) 0
port_held true true e = refl
port_held true false e = refl
port_held false c e = absurd (false≢true e)

starboard_held : (b c : Bool) → c ≡ true → Holds rails (of_points b c) 1
starboard_held true true e = refl
starboard_held false true e = refl
starboard_held b false e = absurd (false≢true e)

gather_holds : (x : Rail) (ps : List Rail) (k : ℕ) → 0 < k → Inside rails x ps → (n : ℕ) → k ≤ times rails n ps → Holds rails (gather x ps k) n
gather_holds x ps k some a n h =
    let i = held x Both refl n (times_held rails x n (λ q w. held q x w n) ps a (omega arith)) in
    let l = ltb-true n 2 i in
    elim (cases_eq n 0) [
      | inl e ↦
          subst (λ m. Holds rails (gather x ps k) m) (sym e) (port_held (deep ps k 0) (deep ps k 1) (le-leb k (times rails 0 ps) (subst (λ m. k ≤ times rails m ps) e h)))
      | inr u ↦
          let e : n ≡ 1 = omega arith in
          subst (λ m. Holds rails (gather x ps k) m) (sym e) (starboard_held (deep ps k 0) (deep ps k 1) (le-leb k (times rails 1 ps) (subst (λ m. k ≤ times rails m ps) e h)))
    ]

gather_few : (x : Rail) (ps : List Rail) (k : ℕ) → length ps < k → gather x ps k ≡ None
gather_few x ps k h =
    ap₂ of_points (lt-leb k (times rails 0 ps) (omega (arith, count_by-le-length (λ p. holds p 0) ps))) (lt-leb k (times rails 1 ps) (omega (arith, count_by-le-length (λ p. holds p 1) ps)))

gather_order : (x : Rail) (ps qs : List Rail) (k : ℕ) → IsPermutation ps qs → gather x ps k ≡ gather x qs k
gather_order x ps qs k s =
    ap₂ (λ (i j : ℕ). of_points (nat_le k i) (nat_le k j)) (sym (sum_by-IsPermutation (λ p. cond (holds p 0) 1 0) ps qs s)) (sym (sum_by-IsPermutation (λ p. cond (holds p 1) 1 0) ps qs s))

height_most : (p : Rail) → height p ≤ 24
height_most Port = omega arith
height_most Starboard = omega arith
height_most Both = omega arith

height_within : (q p : Rail) → within q p ≡ true → height q ≤ height p
height_within Port p w = omega arith
height_within Starboard p w = omega arith
height_within Both Port w = absurd (false≢true w)
height_within Both Starboard w = absurd (false≢true w)
height_within Both Both w = omega arith

height_halves : (p : Rail) → 1 < count p → (height (halves p).0 < height p) × (height (halves p).1 < height p)
height_halves Port h = absurd (omega arith)
height_halves Starboard h = absurd (omega arith)
height_halves Both h = (omega arith, omega arith)

pub lawful : Laws rails
lawful = record {
  counted = counted;
  some = some;
  reflexive = reflexive;
  transitive = transitive;
  held = held;
  whole = whole;
  numbered = numbered_back;
  named = named;
  single = λ p e. e;
  larger = λ p h. h;
  halved = halved;
  halves_within = halves_within;
  stripped = stripped;
  strips_within = strips_within;
  strips_few = strips_few;
  span_within = span_within;
  span_left = λ x p w. refl;
  span_right = λ x p w. refl;
  span_none = λ x. refl;
  gather_within = gather_within;
  gather_holds = gather_holds;
  gather_few = λ x ps k _ h. gather_few x ps k h;
  gather_order = λ x ps qs k _ _ s. gather_order x ps qs k s;
  height_most = height_most;
  height_within = height_within;
  height_halves = height_halves;
}
