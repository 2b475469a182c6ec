-- Rearranged contractors have the same maps.
use Rattle.std.proofs.Common.{◌≡◌, ℕ, ◌+◌, ◌-◌, ◌<◌, true, false, ltb, List, [], ◌∷◌, ◌++◌, map, length, Some, None, Option, sym, refl, ap, ◌∙◌, subst, ap₂, arith}
use mathlib.Core.Path.{fun_ext}
use Rattle.std.specs.List.{AllByRecursion}
use Rattle.std.specs.List.Sorted.{IsPermutation}
use Rattle.std.proofs.lemmas.List.{map-append, length-append}
use Rattle.std.proofs.lemmas.List.Sorted.{IsPermutation-refl, IsPermutation-cons, IsPermutation-swap, IsPermutation-trans}
use Rattle.domain.specs.Laws.{Laws}
use Rattle.domain.specs.Maps.{Maps, Inside}
use Rattle.contractor.specs.Layers.{after, given, nothings, gathered, settled, all_kept, all_shed, both, either, relaxed, fixed}
use Rattle.contractor.specs.Meaning.{Meaning, Sound}
use Rattle.contractor.specs.Rearranged.{Alike, Rearranged, Paired}
use Rattle.contractor.specs.Rearranged.Rearranged.{same, both_of, either_of, not_of, fixed_of, relaxed_of}
use Rattle.contractor.specs.Rearranged.Paired.{none, one}
use Rattle.contractor.proofs.Relaxing.{inside_given}

-- one more in front of a list, or anywhere in it
pub shuffled_insert : {X : Type 0} (x : X) (front back : List X) → IsPermutation (x ∷ (front ++ back)) (front ++ x ∷ back)
shuffled_insert x [] back = IsPermutation-refl (x ∷ back)
shuffled_insert x (y ∷ front) back =
    IsPermutation-trans (x ∷ y ∷ (front ++ back)) (y ∷ x ∷ (front ++ back)) (y ∷ (front ++ x ∷ back))
    (IsPermutation-swap (x ∷ y ∷ (front ++ back)) (y ∷ x ∷ (front ++ back)) 0 1 (omega arith) (omega arith) refl)
    (IsPermutation-cons y (x ∷ (front ++ back)) (front ++ x ∷ back) (shuffled_insert x front back))

-- two lists of answers with as many nothings, and the same pieces in some order
record Matched {P : Type 0} (os ps : List (Option P)) : Type 0 where
  pieces : IsPermutation (given os) (given ps)
  nones : nothings os ≡ nothings ps

given_append : {P : Type 0} (os ps : List (Option P)) → given (os ++ ps) ≡ given os ++ given ps
given_append [] ps = refl
given_append (None ∷ os) ps = given_append os ps
given_append (Some p ∷ os) ps = ap (λ qs. p ∷ qs) (given_append os ps)

nothings_append : {P : Type 0} (os ps : List (Option P)) → nothings (os ++ ps) ≡ nothings os + nothings ps
nothings_append [] ps = omega arith
nothings_append (None ∷ os) ps = omega (arith, nothings_append os ps)
nothings_append (Some p ∷ os) ps = omega (arith, nothings_append os ps)

-- the same answer more, in front of the one and anywhere in the other
matched_more : {P : Type 0} (o : Option P) (os front back : List (Option P)) → Matched os (front ++ back) → Matched (o ∷ os) (front ++ o ∷ back)
matched_more None os front back m =
    record {
      pieces = subst (IsPermutation (given os)) (given_append front back ∙ sym (given_append front (None ∷ back))) m.pieces;
      nones = omega (arith, m.nones, nothings_append front back, nothings_append front (None ∷ back));
    }
matched_more (Some p) os front back m =
    record {
      pieces =
          subst (IsPermutation (p ∷ given os)) (sym (given_append front (Some p ∷ back)))
          (IsPermutation-trans (p ∷ given os) (p ∷ (given front ++ given back)) (given front ++ p ∷ given back)
          (IsPermutation-cons p (given os) (given front ++ given back) (subst (IsPermutation (given os)) (given_append front back) m.pieces))
          (shuffled_insert p (given front) (given back)));
      nones = omega (arith, m.nones, nothings_append front back, nothings_append front (Some p ∷ back));
    }

-- the same of a map's answers over members, of which one is inserted
matched_insert : {P : Type 0} (side : Meaning P → Option P) (a b : Meaning P) (ms front back : List (Meaning P)) → side a ≡ side b → Matched (map side ms) (map side (front ++ back)) → Matched (map side (a ∷ ms)) (map side (front ++ b ∷ back))
matched_insert side a b ms front back e m =
    subst (λ (os : List (Option _)). Matched (side a ∷ map side ms) os) (ap (λ o. map side front ++ o ∷ map side back) e ∙ sym (map-append side front (b ∷ back)))
    (matched_more (side a) (map side ms) (map side front) (map side back) (subst (Matched (map side ms)) (map-append side front back) m))

-- what holds of two panels whose members pair off
record Matches {P : Type 0} (ms ns : List (Meaning P)) : Type 0 where
  kept : (x : P) → Matched (all_kept ms x) (all_kept ns x)
  shed : (x : P) → Matched (all_shed ms x) (all_shed ns x)
  lengths : length ms ≡ length ns

matches_none : {P : Type 0} → Matches {P = P} [] []
matches_none =
    record {
      kept = λ x. record { pieces = IsPermutation-refl []; nones = refl };
      shed = λ x. record { pieces = IsPermutation-refl []; nones = refl };
      lengths = refl;
    }

matches_one : {P : Type 0} (a b : Meaning P) (ms front back : List (Meaning P)) → Alike a b → Matches ms (front ++ back) → Matches (a ∷ ms) (front ++ b ∷ back)
matches_one a b ms front back e m =
    record {
      kept = λ x. matched_insert (λ c. c.keep x) a b ms front back (e.keep x) (m.kept x);
      shed = λ x. matched_insert (λ c. c.shed x) a b ms front back (e.shed x) (m.shed x);
      lengths = omega (arith, m.lengths, length-append front back, length-append front (b ∷ back));
    }

module _ {P : Type 0} (d : Maps P) (l : Laws d) where
  gathered_order : (x : P) (os ps : List (Option P)) (most k : ℕ) → 0 < k → Inside d x (given os) → Matched os ps → gathered d x os most k ≡ gathered d x ps most k
  gathered_order x os ps most k h i m =
      ap₂ (λ (n : ℕ) (g : Option P). elim (ltb most n) [ true ↦ None | false ↦ g ]) m.nones (l.gather_order x (given os) (given ps) k h i m.pieces)

  relaxed_alike : (q : ℕ) (ms ns : List (Meaning P)) → q < length ms → AllByRecursion (Sound d) ms → Matches ms ns → Alike (relaxed d q ms) (relaxed d q ns)
  relaxed_alike q ms ns few all m =
      record {
        keep = λ x.
            gathered_order x (all_kept ms x) (all_kept ns x) q (length ms - q) (omega arith) (inside_given d x (λ c. c.keep x) (Sound d) (λ c s. s.keep_fits x) ms all) (m.kept x)
            ∙ ap (λ (n : ℕ). gathered d x (all_kept ns x) q (n - q)) m.lengths;
        shed = λ x.
            gathered_order x (all_shed ms x) (all_shed ns x) (length ms - q - 1) (q + 1) (omega arith) (inside_given d x (λ c. c.shed x) (Sound d) (λ c s. s.shed_fits x) ms all) (m.shed x)
            ∙ ap (λ (n : ℕ). gathered d x (all_shed ns x) (n - q - 1) (q + 1)) m.lengths;
      }

  both_alike : (a b c e : Meaning P) → Alike a b → Alike c e → Alike (both d a c) (both d b e)
  both_alike a b c e h k =
      record {
        keep = λ x. ap₂ after (fun_ext k.keep) (h.keep x);
        shed = λ x. ap₂ (d.span x) (h.shed x) (k.shed x);
      }

  either_alike : (a b c e : Meaning P) → Alike a b → Alike c e → Alike (either d a c) (either d b e)
  either_alike a b c e h k =
      record {
        keep = λ x. ap₂ (d.span x) (h.keep x) (k.keep x);
        shed = λ x. ap₂ after (fun_ext k.shed) (h.shed x);
      }

  fixed_alike : (a b : Meaning P) → Alike a b → Alike (fixed d a) (fixed d b)
  fixed_alike a b h =
      record {
        keep = λ x. ap (λ f. settled d f (d.count x) x) (fun_ext h.keep);
        shed = λ x. ap (λ f. settled d f (d.count x) x) (fun_ext h.shed);
      }

  mutual
    pub rearranged_alike : {a b : Meaning P} → Rearranged d a b → Alike a b
    rearranged_alike (same h) = h
    rearranged_alike (both_of {a = a} {b = b} {c = c} {e = e} h k) = both_alike a b c e (rearranged_alike h) (rearranged_alike k)
    rearranged_alike (either_of {a = a} {b = b} {c = c} {e = e} h k) = either_alike a b c e (rearranged_alike h) (rearranged_alike k)
    rearranged_alike (not_of h) = let k = rearranged_alike h in record { keep = k.shed; shed = k.keep }
    rearranged_alike (fixed_of {a = a} {b = b} h) = fixed_alike a b (rearranged_alike h)
    rearranged_alike (relaxed_of {q = q} {ms = ms} {ns = ns} few s t h) = relaxed_alike q ms ns few s (paired_matches h)

    paired_matches : {ms ns : List (Meaning P)} → Paired d ms ns → Matches ms ns
    paired_matches none = matches_none
    paired_matches (one {a = a} {b = b} {ms = ms} front back h k) = matches_one a b ms front back (rearranged_alike h) (paired_matches k)
