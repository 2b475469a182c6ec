-- The promises of a listing, and that it shows nothing but the contractor's two maps.
use Rattle.std.proofs.Common.{◌≡◌, ℕ, Bool, List, [], Option, sym, refl, ap, ◌∙◌, subst, ap₂, arith}
use mathlib.Core.Path.{fun_ext}
use Rattle.domain.specs.Laws.{Laws}
use Rattle.domain.specs.Maps.{Maps, times, Parts}
use Rattle.domain.proofs.Totals.{total_parts}
use Rattle.contractor.specs.Meaning.{Meaning, meaning, Sound}
use Rattle.contractor.specs.Rearranged.{Alike}
use Rattle.paving.specs.Sheet.{Task, task, pieces}
use Rattle.paving.specs.Turns.{points_of, after_turns}
use Rattle.paving.specs.declared.turns.Turn.{Turn}
use Rattle.paving.proofs.Keeping.{kept_after}
use Rattle.paving.proofs.Sums.{by_class}
use Rattle.paving.proofs.Truths.{truth_law, limits_law}
use Rattle.listing.specs.Listings.{sheet_text, Ground, Listing}
use Rattle.listing.proofs.Ends.{same_end}

module _ {P : Type 0} (t : Task P) (l : Laws t.maps) (set : ℕ → Bool) (sound : Sound t.maps (meaning set t.keep t.shed)) where
  ground : (us : List Turn) → (after_turns t us).waiting ≡ [] → (shown : P → List ℕ) → Ground t set shown (sheet_text t shown (after_turns t us))
  ground us e shown =
      let s = after_turns t us in
      let k = kept_after t l set sound us in
      let w = truth_law t l set sound s k in
      let shared : Parts t.maps t.start (pieces s.made) = λ n. omega (arith, k.shares n, ap (times t.maps n) e) in
      record {
        records = s.made;
        points = points_of t s.made;
        steps = s.steps;
        lines = refl;
        labels = (limits_law t l set sound s k).labels;
        shared = shared;
        inside_all = w.inside_all;
        outside_none = w.outside_none;
        undecided_small = w.undecided_small;
        decided = w.decided;
        exact = λ g. w.exact g e;
        totals = refl;
        added = sym (by_class t.maps.count s.made) ∙ total_parts t.maps l t.start (pieces s.made) shared;
        few_steps = (limits_law t l set sound s k).few_steps;
      }

  pub listing : (us : List Turn) → (after_turns t us).waiting ≡ [] → (shown : P → List ℕ) (text : List ℕ) → text ≡ sheet_text t shown (after_turns t us) → Listing t set shown text
  listing us e shown text f =
      record {
        turns = us;
        done = e;
        always = λ vs h. f ∙ ap (sheet_text t shown) (same_end t us vs e h);
        ground = subst (Ground t set shown) (sym f) (ground us e shown);
      }

-- tasks with the same fields are the same
same_task : {P : Type 0} (t u : Task P) → t.maps ≡ u.maps → t.keep ≡ u.keep → t.shed ≡ u.shed → t.start ≡ u.start → t.grain ≡ u.grain → t ≡ u
same_task {P} t u a b c e f =
    ap (λ q. record { maps = q; keep = t.keep; shed = t.shed; start = t.start; grain = t.grain }) a
    ∙ ap₂ (λ (k h : P → Option P). record { maps = u.maps; keep = k; shed = h; start = t.start; grain = t.grain }) b c
    ∙ ap₂ (λ p n. record { maps = u.maps; keep = u.keep; shed = u.shed; start = p; grain = n }) e f

-- A listing shows of its contractor only the two maps: where these are the same, so is the text.
pub same_listing : {P : Type 0} (t u : Task P) → t.maps ≡ u.maps → ((p : P) → t.keep p ≡ u.keep p) → ((p : P) → t.shed p ≡ u.shed p) → t.start ≡ u.start → t.grain ≡ u.grain → {a b : ℕ → Bool} {shown : P → List ℕ} {one other : List ℕ} → Listing t a shown one → Listing u b shown other → one ≡ other
same_listing t u maps keep shed start grain {shown = shown} x y =
    let e = same_task t u maps (fun_ext keep) (fun_ext shed) start grain in
    let us = x.turns in
    x.always us x.done ∙ ap (λ q. sheet_text q shown (after_turns q us)) e ∙ sym (y.always us (ap (λ q. (after_turns q us).waiting) (sym e) ∙ x.done))

-- the same of two contractors that are alike
pub alike_listing : {P : Type 0} (d : Maps P) (a b : Meaning P) → Alike a b → (start : P) (grain : ℕ) {shown : P → List ℕ} {one other : List ℕ} → Listing (task d a start grain) a.set shown one → Listing (task d b start grain) b.set shown other → one ≡ other
alike_listing d a b e start grain = same_listing (task d a start grain) (task d b start grain) refl e.keep e.shed refl refl
