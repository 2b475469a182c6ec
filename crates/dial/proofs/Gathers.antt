-- A gathering by the members' stretches is the gathering by points.
use Rattle.std.proofs.Common.{◌≡◌, ℕ, ◌+◌, ◌-◌, ◌<◌, true, cond, leb, List, [], ◌∷◌, map, Some, Option, sym, refl, ap, ◌∙◌, subst, ap₂, arith}
use Rattle.std.proofs.lemmas.List.Sums.{sum_by-cons}
use Rattle.std.proofs.lemmas.Bool.{leb-true}
use Rattle.std.proofs.lemmas.Bool.Decides.{nat_tests}
use Rattle.scan.specs.Depth.{covers, Below}
use Rattle.scan.specs.Depth as stretches
use Rattle.scan.specs.Live.{run, Runs}
use Rattle.scan.specs.declared.stretch.Stretch.{Stretch}
use Rattle.scan.proofs.Counting.{from_to}
use Rattle.scan.proofs.Runs.{run_is, run_ext}
use Rattle.domain.specs.Maps.{Inside}
use Rattle.domain.proofs.Members.{Named}
use Rattle.dial.specs.declared.arc.Arc.{Arc}
use Rattle.dial.specs.Arcs.{point, holds, within, begin, end, taken_up, extent, depth, deep, along, gather, dial}
use Rattle.dial.specs.Offsets.{point_below, offset_point}
use Rattle.dial.specs.Slices.{relative}

module _ (x : Arc) where
  -- a member's stretch holds the places of its points
  ends_in : (a b i : ℕ) → a < b → covers (record { low = a; high = b - 1 }) i ≡ from_to a b i
  ends_in a b i h = grind (arith, nat_tests)

  covers_holds : (p : Arc) (i : ℕ) → within p x ≡ true → i < x.len → covers (taken_up x (Some p)) i ≡ holds p (point x.start i)
  covers_holds p i w h =
      let l : i < 3600 = omega (arith, x.most) in
      ends_in (begin x p) (end x p) i (omega (arith, p.some))
      ∙ ap (from_to (begin x p) (end x p)) (sym (offset_point x.start i x.placed l))
      ∙ sym (relative x p (point x.start i) w (point_below x.start i x.placed (omega arith)))

  depth_same : (i : ℕ) → i < x.len → (ns : List ℕ) (ps : List Arc) → Named dial ns ps → Inside dial x ps → stretches.depth (map (extent x) ns) i ≡ depth x ps i
  depth_same i h [] [] e a = refl
  depth_same i h [] (p ∷ ps) e a = absurd e
  depth_same i h (n ∷ ns) [] e a = absurd e
  depth_same i h (n ∷ ns) (p ∷ ps) e a =
      sum_by-cons (λ s. cond (covers s i) 1 0) (extent x n) (map (extent x) ns)
      ∙ ap₂ (λ b (k : ℕ). cond b 1 0 + k) (ap (λ o. covers (taken_up x o) i) e.0 ∙ covers_holds p i a.0 h) (depth_same i h ns ps e.1 a.1)
      ∙ sym (sum_by-cons (λ q. cond (holds q (point x.start i)) 1 0) p ps)

  below : (ns : List ℕ) (ps : List Arc) → Named dial ns ps → Inside dial x ps → Below x.len (map (extent x) ns)
  below [] ps e a = tt
  below (n ∷ ns) [] e a = absurd e
  below (n ∷ ns) (p ∷ ps) e a =
      (subst (λ o. (taken_up x o).high < x.len) (sym e.0) (omega (arith, leb-true (end x p) x.len a.0, p.some)), below ns ps e.1 a.1)

  -- what a search among the members' ends finds
  module _ (ns : List ℕ) (ps : List Arc) (k : ℕ) (r : Option Stretch) (some : 0 < k) (e : Named dial ns ps) (a : Inside dial x ps) (found : (b : ℕ) → 0 < k → Below b (map (extent x) ns) → r ≡ run (stretches.deep k (map (extent x) ns)) 0 b) where
    pub found_run : r ≡ run (deep x ps k) 0 x.len
    found_run =
        found x.len some (below ns ps e a)
        ∙ run_ext (stretches.deep k (map (extent x) ns)) (deep x ps k) 0 x.len (λ i _ h. ap (leb k) (depth_same i (omega arith) ns ps e a))

    pub found_runs : Runs (deep x ps k) 0 x.len r
    found_runs = subst (Runs (deep x ps k) 0 x.len) (sym found_run) (run_is (deep x ps k) 0 x.len x.len (omega arith))

    pub found_gather : along x r ≡ gather x ps k
    found_gather = ap (along x) found_run
