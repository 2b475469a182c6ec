-- A gathering of rails by the members' stretches.
use Rattle.std.proofs.Common.{◌≡◌, ℕ, ◌+◌, ◌<◌, cond, leb, List, [], ◌∷◌, map, Some, Option, sym, refl, ap, ◌∙◌, subst, ap₂, arith, MatchOption}
use Rattle.std.proofs.lemmas.List.Sums.{sum_by-cons}
use Rattle.std.proofs.lemmas.Bool.Decides.{nat_tests}
use Rattle.scan.specs.Depth.{covers, depth}
use Rattle.domain.specs.Maps.{times, Members, Gathered}
use Rattle.domain.proofs.Members.{Named, named, members_pieces}
use Rattle.edges.specs.declared.rail.Rail.{Rail}
use Rattle.edges.specs.declared.rail.Rail.TheVariants.{Port, Starboard, Both}
use Rattle.edges.specs.Rails.{holds, numbered, of_points, gather, taken_up, rails}

covers_holds : (p : Rail) (n : ℕ) → covers (taken_up (Some p)) n ≡ holds p n
covers_holds Port n = grind (arith, nat_tests)
covers_holds Starboard n = grind (arith, nat_tests)
covers_holds Both n = grind (arith, nat_tests)

depth_same : (n : ℕ) (ns : List ℕ) (ps : List Rail) → Named rails ns ps → depth (map (λ m. taken_up (numbered m)) ns) n ≡ times rails n ps
depth_same n [] [] e = refl
depth_same n [] (p ∷ ps) e = absurd e
depth_same n (m ∷ ns) [] e = absurd e
depth_same n (m ∷ ns) (p ∷ ps) e =
    sum_by-cons (λ s. cond (covers s n) 1 0) (taken_up (numbered m)) (map (λ i. taken_up (numbered i)) ns)
    ∙ ap₂ (λ b (k : ℕ). cond b 1 0 + k) (ap (λ o. covers (taken_up o) n) e.0 ∙ covers_holds p n) (depth_same n ns ps e.1)
    ∙ sym (sum_by-cons (λ q. cond (holds q n) 1 0) p ps)

pub gathered : (x : Rail) (ns : List ℕ) (k : ℕ) (o : Option Rail) → 0 < k → Members rails x ns → o ≡ of_points (leb k (depth (map (λ m. taken_up (numbered m)) ns) 0)) (leb k (depth (map (λ m. taken_up (numbered m)) ns) 1)) → ((0 < k) × Members rails x ns) × Gathered rails x ns k o
gathered x ns k o some m e =
    let p = members_pieces rails x ns m in
    let f = named rails ns p.0 p.1 in (
      (some, m),
      subst (λ l. MatchOption l ⊥ (λ ps. o ≡ gather x ps k)) (sym p.1)
          (e ∙ ap₂ (λ (i j : ℕ). of_points (leb k i) (leb k j)) (depth_same 0 ns p.0 f) (depth_same 1 ns p.0 f)),
    )
