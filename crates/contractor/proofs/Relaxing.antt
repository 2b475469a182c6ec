-- Relaxed keeps the laws: members that hold a point, and members that give nothing, counted.
use Rattle.std.proofs.Common.{◌≡◌, ℕ, ◌+◌, ◌-◌, ◌<◌, ◌≤◌, Bool, true, false, cond, not, ltb, List, [], ◌∷◌, map, length, Some, None, count_by, Option, sym, refl, ap, subst, arith}
use Rattle.std.specs.List.{AllByRecursion}
use Rattle.std.proofs.lemmas.List.{length-map}
use Rattle.std.proofs.lemmas.List.Sums.{sum_by-cons, count_by-le-length}
use Rattle.std.proofs.lemmas.Bool.{leb-true, leb-false, le-ltb, lt-ltb, not-true}
use Rattle.domain.specs.Laws.{Laws}
use Rattle.domain.specs.Maps.{Maps, Fits, Holds, Inside, times}
use Rattle.contractor.specs.Layers.{given, nothings, holders, all_kept, all_shed, gathered, relaxed}
use Rattle.contractor.specs.Meaning.{Meaning, Sound}

-- a test's yes and its no
one_of_two : (b : Bool) → cond b 1 0 + cond (not b) 1 0 ≡ 1
one_of_two true = refl
one_of_two false = refl

-- those that pass and those that do not are all
not_counted : {X : Type 0} (p : X → Bool) (xs : List X) → count_by p xs + count_by (λ x. not (p x)) xs ≡ length xs
not_counted p [] = refl
not_counted p (x ∷ xs) =
    omega (arith, sum_by-cons (λ y. cond (p y) 1 0) x xs, sum_by-cons (λ y. cond (not (p y)) 1 0) x xs, one_of_two (p x), not_counted p xs)

-- each answer is nothing or a piece
pub nothings_given : {P : Type 0} (os : List (Option P)) → nothings os + length (given os) ≡ length os
nothings_given [] = refl
nothings_given (None ∷ os) = omega (arith, nothings_given os)
nothings_given (Some p ∷ os) = omega (arith, nothings_given os)

-- members whose answer must be nothing are among those that give nothing
module _ {P : Type 0} (test : Meaning P → Bool) (side : Meaning P → Option P) where
  nothing_more : (b : Bool) (o : Option P) (os : List (Option P)) (k : ℕ) → (b ≡ true → o ≡ None) → k ≤ nothings os → cond b 1 0 + k ≤ nothings (o ∷ os)
  nothing_more true None os k h e = omega arith
  nothing_more true (Some p) os k h e = let z : ◌≡◌ {A = ℕ} 0 1 = cc (h refl) in absurd (omega arith)
  nothing_more false None os k h e = omega arith
  nothing_more false (Some p) os k h e = omega arith

  nothing_counted : (Q : Meaning P → Type 0) → ((m : Meaning P) → Q m → test m ≡ true → side m ≡ None) → (ms : List (Meaning P)) → AllByRecursion Q ms → count_by test ms ≤ nothings (map side ms)
  nothing_counted Q h [] a = omega arith
  nothing_counted Q h (m ∷ ms) a =
      let more = nothing_more (test m) (side m) (map side ms) (count_by test ms) (h m a.0) (nothing_counted Q h ms a.1) in
      omega (arith, more, sum_by-cons (λ y. cond (test y) 1 0) m ms)

module _ {P : Type 0} (d : Maps P) (test : Meaning P → Bool) (side : Meaning P → Option P) (n : ℕ) where
  -- members whose answer must hold the point are among those whose answer does
  held_more : (b : Bool) (o : Option P) (os : List (Option P)) (k : ℕ) → (b ≡ true → Holds d o n) → k ≤ times d n (given os) → cond b 1 0 + k ≤ times d n (given (o ∷ os))
  held_more true None os k h e = absurd (h refl)
  held_more true (Some p) os k h e =
      omega (arith, sum_by-cons (λ q. cond (d.holds q n) 1 0) p (given os), ap {B = ℕ} (λ b. cond b 1 0) (h refl))
  held_more false None os k h e = omega arith
  held_more false (Some p) os k h e = omega (arith, sum_by-cons (λ q. cond (d.holds q n) 1 0) p (given os))

  held_counted : (Q : Meaning P → Type 0) → ((m : Meaning P) → Q m → test m ≡ true → Holds d (side m) n) → (ms : List (Meaning P)) → AllByRecursion Q ms → count_by test ms ≤ times d n (given (map side ms))
  held_counted Q h [] a = omega arith
  held_counted Q h (m ∷ ms) a =
      let more = held_more (test m) (side m) (map side ms) (count_by test ms) (h m a.0) (held_counted Q h ms a.1) in
      omega (arith, more, sum_by-cons (λ y. cond (test y) 1 0) m ms)

module _ {P : Type 0} (d : Maps P) (x : P) (side : Meaning P → Option P) where
  inside_more : (o : Option P) (os : List (Option P)) → Fits d x o → Inside d x (given os) → Inside d x (given (o ∷ os))
  inside_more None os f i = i
  inside_more (Some p) os f i = (f, i)

  pub inside_given : (Q : Meaning P → Type 0) → ((m : Meaning P) → Q m → Fits d x (side m)) → (ms : List (Meaning P)) → AllByRecursion Q ms → Inside d x (given (map side ms))
  inside_given Q h [] a = tt
  inside_given Q h (m ∷ ms) a = inside_more (side m) (map side ms) (h m a.0) (inside_given Q h ms a.1)

module _ {P : Type 0} (d : Maps P) (l : Laws d) (x : P) (os : List (Option P)) (most k : ℕ) where
  -- nothing, or what is gathered
  gathered_at : (b : Bool) → 0 < k → Inside d x (given os) → Fits d x (elim b [ true ↦ None | false ↦ d.gather x (given os) k ])
  gathered_at true h i = tt
  gathered_at false h i = l.gather_within x (given os) k h i

  gathered_fits : 0 < k → Inside d x (given os) → Fits d x (gathered d x os most k)
  gathered_fits = gathered_at (ltb most (nothings os))

  gathered_holds : (n : ℕ) → 0 < k → Inside d x (given os) → nothings os ≤ most → k ≤ times d n (given os) → Holds d (gathered d x os most k) n
  gathered_holds n h i e t =
      subst (λ b. Holds d (elim b [ true ↦ None | false ↦ d.gather x (given os) k ]) n) (sym (le-ltb most (nothings os) e)) (l.gather_holds x (given os) k h i n t)

  gathered_none : most < nothings os → gathered d x os most k ≡ None
  gathered_none e =
      subst (λ b. (elim b [ true ↦ None | false ↦ d.gather x (given os) k ]) ≡ None) (sym (lt-ltb most (nothings os) e)) refl

module _ {P : Type 0} (d : Maps P) (l : Laws d) (q : ℕ) (ms : List (Meaning P)) (few : q < length ms) (all : AllByRecursion (Sound d) ms) where
  keep_inside : (x : P) → Inside d x (given (all_kept ms x))
  keep_inside x = inside_given d x (λ m. m.keep x) (Sound d) (λ m s. s.keep_fits x) ms all

  shed_inside : (x : P) → Inside d x (given (all_shed ms x))
  shed_inside x = inside_given d x (λ m. m.shed x) (Sound d) (λ m s. s.shed_fits x) ms all

  module _ (x : P) (n : ℕ) (h : d.holds x n ≡ true) where
    keeps : length ms - q ≤ holders n ms → Holds d (gathered d x (all_kept ms x) q (length ms - q)) n
    keeps e =
        let held = held_counted d (λ m. m.set n) (λ m. m.keep x) n (Sound d) (λ m s. s.keeps x n h) ms all in
        let most = count_by-le-length (λ p. d.holds p n) (given (all_kept ms x)) in
        gathered_holds d l x (all_kept ms x) q (length ms - q) n (omega arith) (keep_inside x)
        (omega (arith, held, most, nothings_given (all_kept ms x), length-map ms (λ m. m.keep x)))
        (omega (arith, held))

    sheds : holders n ms < length ms - q → Holds d (gathered d x (all_shed ms x) (length ms - q - 1) (q + 1)) n
    sheds e =
        let held = held_counted d (λ m. not (m.set n)) (λ m. m.shed x) n (Sound d) (λ m s f. s.sheds x n h (not-true (m.set n) f)) ms all in
        let most = count_by-le-length (λ p. d.holds p n) (given (all_shed ms x)) in
        let others = not_counted (λ m. m.set n) ms in
        gathered_holds d l x (all_shed ms x) (length ms - q - 1) (q + 1) n (omega arith) (shed_inside x)
        (omega (arith, held, most, others, nothings_given (all_shed ms x), length-map ms (λ m. m.shed x)))
        (omega (arith, held, others))

    keep_one : d.count x ≡ 1 → holders n ms < length ms - q → gathered d x (all_kept ms x) q (length ms - q) ≡ None
    keep_one c e =
        let none = nothing_counted (λ m. not (m.set n)) (λ m. m.keep x) (Sound d) (λ m s f. s.keep_one x n c h (not-true (m.set n) f)) ms all in
        gathered_none d l x (all_kept ms x) q (length ms - q) (omega (arith, none, not_counted (λ m. m.set n) ms))

    shed_one : d.count x ≡ 1 → length ms - q ≤ holders n ms → gathered d x (all_shed ms x) (length ms - q - 1) (q + 1) ≡ None
    shed_one c e =
        let none = nothing_counted (λ m. m.set n) (λ m. m.shed x) (Sound d) (λ m s f. s.shed_one x n c h f) ms all in
        gathered_none d l x (all_shed ms x) (length ms - q - 1) (q + 1) (omega (arith, none))

  pub relaxed_sound : Sound d (relaxed d q ms)
  relaxed_sound =
      record {
        keep_fits = λ x. gathered_fits d l x (all_kept ms x) q (length ms - q) (omega arith) (keep_inside x);
        shed_fits = λ x. gathered_fits d l x (all_shed ms x) (length ms - q - 1) (q + 1) (omega arith) (shed_inside x);
        keeps = λ x n h e. keeps x n h (leb-true (length ms - q) (holders n ms) e);
        sheds = λ x n h e. sheds x n h (leb-false (length ms - q) (holders n ms) e);
        keep_one = λ x n c h e. keep_one x n h c (leb-false (length ms - q) (holders n ms) e);
        shed_one = λ x n c h e. shed_one x n h c (leb-true (length ms - q) (holders n ms) e);
      }
