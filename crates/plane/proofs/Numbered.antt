-- Gathering by the numbers of boxes gives what gathering the boxes does.
use Rattle.std.proofs.Common.{◌≡◌, ℕ, suc, ◌-◌, ◌/◌, ◌%◌, ◌^◌, ◌<◌, ◌≤◌, Bool, true, List, [], ◌∷◌, map, Some, None, Option, sym, refl, ap, ◌∙◌, subst, ap₂, arith, MatchOption}
use Rattle.std.specs.List.{AllByRecursion}
use Rattle.std.proofs.ByRecursion.{All-map, All-weaker}
use Rattle.std.proofs.lemmas.Bool.{leb-true}
use Rattle.scan.specs.Depth.{depth, deep, Below}
use Rattle.scan.specs.Live.{run, Runs}
use Rattle.scan.specs.declared.stretch.Stretch.{Stretch}
use Rattle.scan.proofs.Runs.{run_is, run_unique}
use Rattle.domain.specs.Maps.{pieces, joined, Inside, Members, Gathered}
use Rattle.plane.specs.declared.plane_box.PlaneBox.{PlaneBox}
use Rattle.plane.specs.Boxes.{box_numbered, columns, rows, within, crossed, gather, plane}
use Rattle.plane.specs.Gathering.{numbered_at, Crossing, CrossingOf, Found}
use Rattle.plane.specs.Made.{box_is}
use Rattle.plane.specs.Gathers.{between_all}
use Rattle.plane.specs.Within.{within_is}

columns_agree : (n : ℕ) (b : PlaneBox) → box_numbered n ≡ Some b → numbered_at 12 n ≡ columns b
columns_agree n b e =
    let h = box_is (n / 2 ^ 36) (n / 2 ^ 24 % 2 ^ 12) (n / 2 ^ 12 % 2 ^ 12) (n % 2 ^ 12) b e in
    ap₂ (λ (l h : ℕ). record { low = l; high = h }) (omega (arith, h, b.columns.ordered, b.columns.most)) (sym h.2)

rows_agree : (n : ℕ) (b : PlaneBox) → box_numbered n ≡ Some b → numbered_at 0 n ≡ rows b
rows_agree n b e =
    let h = box_is (n / 2 ^ 36) (n / 2 ^ 24 % 2 ^ 12) (n / 2 ^ 12 % 2 ^ 12) (n % 2 ^ 12) b e in
    ap₂ (λ (l h : ℕ). record { low = l; high = h }) (sym h.1) (omega (arith, h))

joined_is : (o : Option PlaneBox) (os : Option (List PlaneBox)) (ps : List PlaneBox) → joined o os ≡ Some ps → (p : PlaneBox) × (qs : List PlaneBox) × (o ≡ Some p) × (os ≡ Some qs) × (p ∷ qs ≡ ps)
joined_is None os ps e = absurd (let z : ◌≡◌ {A = ℕ} 0 1 = cc in omega arith)
joined_is (Some p) None ps e = absurd (let z : ◌≡◌ {A = ℕ} 0 1 = cc in omega arith)
joined_is (Some p) (Some qs) ps e = (p, qs, refl, refl, cc)

-- a run that lies in a narrower range is the run there
narrow : (f : ℕ → Bool) (a b m : ℕ) → b ≤ m → ((i : ℕ) → f i ≡ true → (a ≤ i) × (i < b)) → (r : Option Stretch) → Runs f 0 m r → Runs f a b r
narrow f a b m h g None d = λ i l k. d i (omega arith) (omega arith)
narrow f a b m h g (Some s) d =
    ((g s.low d.3).0, d.1, (g s.high d.4).1, d.3, d.4, λ i l k e. d.5 i (omega arith) (omega arith) e)

-- one side of boxes, and what their numbers say of it
module _ (side : PlaneBox → Stretch) (extent : ℕ → Stretch) (agree : (n : ℕ) (b : PlaneBox) → box_numbered n ≡ Some b → extent n ≡ side b) where
  sides_of : (ns : List ℕ) (ps : List PlaneBox) → pieces plane ns ≡ Some ps → map extent ns ≡ map side ps
  sides_of [] ps e = ap (map side) (let z : [] ≡ ps = cc in z)
  sides_of (n ∷ ns) ps e =
      let j = joined_is (box_numbered n) (pieces plane ns) ps e in
      ap₂ ◌∷◌ (agree n j.0 j.2) (sides_of ns j.1 j.3) ∙ ap (map side) j.4

  module _ (lo hi : ℕ) (fits : hi ≤ 4095) (some : lo ≤ hi) (k : ℕ) (deeper : 0 < k) (ps : List PlaneBox) (all : AllByRecursion (λ p. (lo ≤ (side p).low) × ((side p).high ≤ hi)) ps) where
    bounded : (i : ℕ) → deep k (map side ps) i ≡ true → (lo ≤ i) × (i < suc hi)
    bounded i d =
        let b = between_all lo hi i (map side ps) (All-map (λ s. (lo ≤ s.low) × (s.high ≤ hi)) side ps all) (omega (arith, leb-true k (depth (map side ps) i) d)) in
        (b.0, omega (arith, b.1))

    ends : Below 4096 (map side ps)
    ends = All-map (λ s. s.high < 4096) side ps (All-weaker (λ p. (lo ≤ (side p).low) × ((side p).high ≤ hi)) (λ p. (side p).high < 4096) (λ p h. omega (arith, h.1)) ps all)

    -- so what is found by numbers is the run of the boxes' own sides, over the whole plane and over x
    pub found_whole : (ns : List ℕ) (r : Option Stretch) → pieces plane ns ≡ Some ps → Found extent ns k r → Runs (deep k (map side ps)) 0 4096 r
    found_whole ns r e h =
        let q = subst (λ ss. Below 4096 ss → r ≡ run (deep k ss) 0 4096) (sides_of ns ps e) (h 4096 deeper) ends in
        subst (Runs (deep k (map side ps)) 0 4096) (sym q) (run_is (deep k (map side ps)) 0 4096 4096 (omega arith))

    pub found : (ns : List ℕ) (r : Option Stretch) → pieces plane ns ≡ Some ps → Found extent ns k r → r ≡ run (deep k (map side ps)) lo (suc hi - lo)
    found ns r e h =
        run_unique (deep k (map side ps)) lo (suc hi - lo) (suc hi) (omega arith) r
        (narrow (deep k (map side ps)) lo (suc hi) 4096 (omega arith) bounded r (found_whole ns r e h))

module _ (x : PlaneBox) (ns : List ℕ) (k : ℕ) (deeper : 0 < k) (c r : Option Stretch) (across : Found (numbered_at 12) ns k c) (up : Found (numbered_at 0) ns k r) where
  -- what the boxes so numbered have to do with what was found
  abbrev Sought : List PlaneBox → Type 0
  Sought ps = Runs (deep k (map columns ps)) 0 4096 c × Runs (deep k (map rows ps)) 0 4096 r × (crossed c r ≡ gather x ps k)

  sought : (ps : List PlaneBox) → pieces plane ns ≡ Some ps → Inside plane x ps → Sought ps
  sought ps e a =
      let p = All-weaker (λ p. within p x ≡ true) (λ p. (x.columns.low ≤ p.columns.low) × (p.columns.high ≤ x.columns.high)) (λ p w. let h = within_is p x w in (h.0, h.1)) ps a in
      let q = All-weaker (λ p. within p x ≡ true) (λ p. (x.rows.low ≤ p.rows.low) × (p.rows.high ≤ x.rows.high)) (λ p w. let h = within_is p x w in (h.2, h.3)) ps a in (
        found_whole columns (numbered_at 12) columns_agree x.columns.low x.columns.high x.columns.most x.columns.ordered k deeper ps p ns c e across,
        found_whole rows (numbered_at 0) rows_agree x.rows.low x.rows.high x.rows.most x.rows.ordered k deeper ps q ns r e up,
        ap₂ crossed (found columns (numbered_at 12) columns_agree x.columns.low x.columns.high x.columns.most x.columns.ordered k deeper ps p ns c e across) (found rows (numbered_at 0) rows_agree x.rows.low x.rows.high x.rows.most x.rows.ordered k deeper ps q ns r e up),
      )

  sought_of : (o : Option (List PlaneBox)) → pieces plane ns ≡ o → MatchOption o ⊥ (Inside plane x) → MatchOption o ⊥ Sought
  sought_of None e a = a
  sought_of (Some ps) e a = sought ps e a

  -- whatever follows from that for a list of boxes follows for the numbers
  follows : (Q : List PlaneBox → Type 0) → ((ps : List PlaneBox) → Sought ps → Q ps) → (o : Option (List PlaneBox)) → MatchOption o ⊥ Sought → MatchOption o ⊥ Q
  follows Q f None a = a
  follows Q f (Some ps) a = f ps a

  pub gathered_from : Members plane x ns → (g : Option PlaneBox) → g ≡ crossed c r → Gathered plane x ns k g
  gathered_from m g q = follows (λ ps. g ≡ gather x ps k) (λ ps s. q ∙ s.2) (pieces plane ns) (sought_of (pieces plane ns) refl m)

  pub crossing_from : Members plane x ns → (g : Option PlaneBox) → g ≡ crossed c r → CrossingOf ns k g
  crossing_from m g q = follows (λ ps. Crossing ps k g) (λ ps s. (c, r, s.0, s.1, q)) (pieces plane ns) (sought_of (pieces plane ns) refl m)
