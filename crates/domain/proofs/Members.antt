-- A list of numbers, and the sub-pieces that they name.
use Rattle.std.proofs.Common.{◌≡◌, ℕ, ◌<◌, true, List, [], ◌∷◌, map, length, Some, None, Option, Bool, false, Decides, MatchBool, refl, subst, ap₂, arith, MatchOption}
use Rattle.std.specs.List.{AllByRecursion, AllWithin, HoldsAt}
use Rattle.std.proofs.ByRecursion.{All-get_or, all_from_every}
use Rattle.std.proofs.lemmas.Bool.{false≢true}
use Rattle.domain.specs.Maps.{Maps, joined, pieces, Inside, Member, Members}

-- each number of a list is that of the piece at its place in another
abbrev pub Named : {P : Type 0} → Maps P → List ℕ → List P → Type 0
Named d [] [] = Unit {0}
Named d [] (p ∷ ps) = ⊥
Named d (n ∷ ns) [] = ⊥
Named d (n ∷ ns) (p ∷ ps) = (d.piece n ≡ Some p) × Named d ns ps

module _ {P : Type 0} (d : Maps P) where
  some_is : (a b : List P) → Some a ≡ Some b → a ≡ b
  some_is a b e = cc

  none_is : (a : List P) → ◌≡◌ {A = Option (List P)} None (Some a) → ⊥
  none_is a e = let z : ◌≡◌ {A = ℕ} 0 1 = cc in omega arith

  named_joined : (n : ℕ) (ns : List ℕ) (o : Option P) (os : Option (List P)) (ps : List P) → d.piece n ≡ o → ((qs : List P) → os ≡ Some qs → Named d ns qs) → joined o os ≡ Some ps → Named d (n ∷ ns) ps
  named_joined n ns None os ps e f j = absurd (none_is ps j)
  named_joined n ns (Some p) None ps e f j = absurd (none_is ps j)
  named_joined n ns (Some p) (Some qs) ps e f j = subst (Named d (n ∷ ns)) (some_is (p ∷ qs) ps j) (e, f qs refl)

  pub named : (ns : List ℕ) (ps : List P) → pieces d ns ≡ Some ps → Named d ns ps
  named [] ps e = subst (Named d []) (some_is [] ps e) tt
  named (n ∷ ns) ps e = named_joined n ns (d.piece n) (pieces d ns) ps refl (named ns) e

  -- the numbers of pieces lead back to them
  pub pieces_numbers : ((p : P) → d.piece (d.number p) ≡ Some p) → (ps : List P) → pieces d (map d.number ps) ≡ Some ps
  pieces_numbers back [] = refl
  pieces_numbers back (p ∷ ps) = ap₂ joined (back p) (pieces_numbers back ps)

module _ {P : Type 0} (d : Maps P) (x : P) where
  joined_members : (o : Option P) (os : Option (List P)) → MatchOption o ⊥ (λ p. d.within p x ≡ true) → MatchOption os ⊥ (Inside d x) → MatchOption (joined o os) ⊥ (Inside d x)
  joined_members None os f g = f
  joined_members (Some p) None f g = g
  joined_members (Some p) (Some ps) f g = (f, g)

  pub members_all : (ns : List ℕ) → AllByRecursion (Member d x) ns → Members d x ns
  members_all [] a = tt
  members_all (n ∷ ns) a = joined_members (d.piece n) (pieces d ns) a.0 (members_all ns a.1)

  members_first : (o : Option P) (os : Option (List P)) → MatchOption (joined o os) ⊥ (Inside d x) → MatchOption o ⊥ (λ p. d.within p x ≡ true) × MatchOption os ⊥ (Inside d x)
  members_first None os f = absurd f
  members_first (Some p) None f = absurd f
  members_first (Some p) (Some ps) f = (f.0, f.1)

  pub all_members : (ns : List ℕ) → Members d x ns → AllByRecursion (Member d x) ns
  all_members [] m = tt
  all_members (n ∷ ns) m = let r = members_first (d.piece n) (pieces d ns) m in (r.0, all_members ns r.1)

  -- where all are members, there is the list of their pieces
  some_of : (o : Option (List P)) → MatchOption o ⊥ (Inside d x) → (ps : List P) × (o ≡ Some ps) × Inside d x ps
  some_of None f = absurd f
  some_of (Some ps) f = (ps, refl, f)

  pub members_pieces : (ns : List ℕ) → Members d x ns → (ps : List P) × (pieces d ns ≡ Some ps) × Inside d x ps
  members_pieces ns m = some_of (pieces d ns) m

  -- what a test of each of the numbers tells
  pub members_decided : (ns : List ℕ) (r : Bool) → MatchBool r (AllWithin (Member d x) ns 0 (length ns)) ((k : ℕ) × (k < length ns) × HoldsAt (λ n. Member d x n → ⊥) ns k) → Decides r (Members d x ns)
  members_decided ns true a = (λ _. members_all ns (all_from_every (Member d x) ns a), λ _. refl)
  members_decided ns false n = (λ e. absurd (false≢true e), λ m. absurd (n.2 0 (All-get_or (Member d x) ns n.0 0 n.1 (all_members ns m))))
