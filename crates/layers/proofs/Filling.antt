-- The members' answers, written one by one into a buffer as numbers.
use Rattle.std.proofs.Common.{◌≡◌, ℕ, ◌+◌, ◌-◌, ◌<◌, ◌≤◌, true, List, [], ◌∷◌, ◌++◌, map, length, take, set, Some, None, Option, Result, Ok, MatchOption, MatchResult, sym, refl, ap, ◌∙◌, subst, arith}
use Rattle.std.specs.List.{HoldsAt}
use Rattle.std.proofs.ByRecursion.{All-push}
use Rattle.std.proofs.lemmas.List.{length_push, length-set, map_push, take_all, take_more, take_more_set}
use Rattle.std.proofs.lemmas.Bool.{lt-ltb, le-ltb}
use Rattle.domain.specs.Laws.{Laws}
use Rattle.domain.specs.Maps.{Maps, Fits, Inside, Members, Gathered, pieces}
use Rattle.domain.specs.declared.refusal.Refusal.{Refusal}
use Rattle.domain.proofs.Members.{pieces_numbers}
use Rattle.contractor.specs.Layers.{given, nothings, gathered}
use Rattle.contractor.proofs.Relaxing.{nothings_given}
use Rattle.layers.specs.Answers.{Told}

given_nothing : {P : Type 0} (os : List (Option P)) → given (os ++ None ∷ []) ≡ given os
given_nothing [] = refl
given_nothing (None ∷ os) = given_nothing os
given_nothing (Some p ∷ os) = ap (λ ps. p ∷ ps) (given_nothing os)

given_some : {P : Type 0} (os : List (Option P)) (p : P) → given (os ++ Some p ∷ []) ≡ given os ++ p ∷ []
given_some [] p = refl
given_some (None ∷ os) p = given_some os p
given_some (Some q ∷ os) p = ap (λ ps. q ∷ ps) (given_some os p)

module _ {P : Type 0} (d : Maps P) (x : P) (n : ℕ) (calls : ℕ → Result (Option P) Refusal → Type 0) where
  -- the answers of the first i members are in the buffer, as the numbers of the pieces among them
  pub record Filled (i filled : ℕ) (buffer : List ℕ) : Type 0 where
    pub parts : List P
    pub size : length buffer ≡ 16
    pub few : filled ≤ i
    pub count : filled ≡ length parts
    pub numbers : take filled buffer ≡ map d.number parts
    pub inside : Inside d x parts
    pub among : (os : List (Option P)) → Told calls n os → parts ≡ given (take i os)

  module _ (i filled : ℕ) (buffer : List ℕ) (h : i < n) (f : Filled i filled buffer) (r : Result (Option P) Refusal) (c : calls i r) where
    -- the next answer, after those that are there
    next : (o : Option P) → r ≡ Ok o → (os : List (Option P)) → Told calls n os → take (i + 1) os ≡ take i os ++ o ∷ []
    next o e os t =
        let told : HoldsAt (λ a. o ≡ a) os i = t.1 i (Ok o) h (subst (calls i) e c) in
        let more = take_more os i o (omega (arith, t.0)) in
        let same = told o in
        cc

    pub filled_nothing : r ≡ Ok None → Filled (i + 1) filled buffer
    filled_nothing e =
        record {
          parts = f.parts;
          size = f.size;
          few = omega (arith, f.few);
          count = f.count;
          numbers = f.numbers;
          inside = f.inside;
          among =
              λ os t.
              let more = next None e os t in
              let nothing = given_nothing (take i os) in
              let before = f.among os t in
              cc;
        }

    pub filled_more : (p : P) (k : ℕ) → r ≡ Ok (Some p) → MatchResult r (Fits d x) (λ e. ⊥) → k ≡ d.number p → n ≤ 16 → Filled (i + 1) (filled + 1) (set buffer filled k)
    filled_more p k e w c few =
        record {
          parts = f.parts ++ p ∷ [];
          size = length-set buffer filled k ∙ f.size;
          few = omega (arith, f.few);
          count = omega (arith, f.count, length_push f.parts p);
          numbers =
              let written = take_more_set buffer filled k (omega (arith, f.size, f.few)) in
              let pushed = map_push d.number f.parts p in
              cc;
          inside = All-push (λ q. d.within q x ≡ true) f.parts p f.inside (subst (λ (s : Result (Option P) Refusal). MatchResult s (Fits d x) (λ e. ⊥)) e w);
          among =
              λ os t.
              let more = next (Some p) e os t in
              let some = given_some (take i os) p in
              let before = f.among os t in
              cc;
        }

  -- all of them are there
  module _ (l : Laws d) (i filled : ℕ) (buffer : List ℕ) (all : n ≤ i) (f : Filled i filled buffer) where
    filled_pieces : pieces d (take filled buffer) ≡ Some f.parts
    filled_pieces = ap (pieces d) f.numbers ∙ pieces_numbers d l.numbered f.parts

    pub filled_members : Members d x (take filled buffer)
    filled_members = subst (λ o. MatchOption o ⊥ (Inside d x)) (sym filled_pieces) f.inside

    module _ (os : List (Option P)) (t : Told calls n os) where
      filled_given : f.parts ≡ given os
      filled_given = f.among os t ∙ ap given (take_all i os (omega (arith, t.0)))

      -- those that are left out are nothing
      left_out : n - filled ≡ nothings os
      left_out = omega (arith, f.count, nothings_given os, t.0, ap length filled_given)

      module _ (most depth : ℕ) where
        pub too_few : most < n - filled → None ≡ gathered d x os most depth
        too_few h = let many = lt-ltb most (nothings os) (omega (arith, left_out)) in cc

        pub gathered_these : n - filled ≤ most → (r : Option P) → Gathered d x (take filled buffer) depth r → r ≡ gathered d x os most depth
        gathered_these h r g =
            let few = le-ltb most (nothings os) (omega (arith, left_out)) in
            let these : r ≡ d.gather x f.parts depth = subst (λ o. MatchOption o ⊥ (λ ps. r ≡ d.gather x ps depth)) filled_pieces g in
            let all = filled_given in
            cc
