-- Sweeping a piece of the dial by a test of its points.
use Rattle.std.specs.Prelude.{◌≡◌, ℕ, suc, ◌-◌, ◌<◌, ◌≤◌, Bool, true, false, not, IfSome, Some, None, Option, nat_lt}
use Rattle.std.proofs.Common.{arith, sym, ap, subst, ◌∙◌}
use Rattle.std.proofs.lemmas.Bool.{both_ways, and_parts, ltb-true, not_from_true, not_from_false}
use Rattle.scan.specs.Live.{run, Runs}
use Rattle.scan.specs.declared.stretch.Stretch.{Stretch}
use Rattle.scan.proofs.Runs.{run_is, run_unique}
use Rattle.domain.specs.Maps.{Fits, Holds}
use Rattle.contractor.specs.Meaning.{Sound, meaning}
use Rattle.dial.specs.declared.arc.Arc.{Arc}
use Rattle.dial.specs.Arcs.{point, offset, holds, within, begin, end, along, dial}
use Rattle.dial.specs.Offsets.{point_offset}
use Rattle.dial.specs.Slices.{relative, sliced, from_to_true}
use Rattle.leaves.specs.Arcs.{swept, kept, dropped}

-- a test of points, over the places of x
module _ (t : ℕ → Bool) (x : Arc) where
  abbrev places : ℕ → Bool
  places i = t (point x.start i)

  ran : Runs places 0 x.len (run places 0 x.len)
  ran = run_is places 0 x.len x.len (omega arith)

  -- a run of places is short enough to be laid along x
  short : (r : Option Stretch) → Runs places 0 x.len r → IfSome r (λ s. (s.low ≤ s.high) × (s.high < x.len))
  short None f = tt
  short (Some s) f = (f.1, f.2)

  pub swept_short : (r : Option Stretch) → r ≡ run places 0 x.len → IfSome r (λ s. (s.low ≤ s.high) × (s.high < x.len))
  swept_short r e = short r (subst (Runs places 0 x.len) (sym e) ran)

  laid : (s : Stretch) → Runs places 0 x.len (Some s) → (b : Arc) × (along x (Some s) ≡ Some b) × (begin x b ≡ s.low) × (b.len ≡ suc s.high - s.low) × (within b x ≡ true)
  laid s f = sliced x s.low (suc s.high - s.low) (omega (arith, f.1)) (omega (arith, f.1, f.2))

  along_fits : (r : Option Stretch) → Runs places 0 x.len r → Fits dial x (along x r)
  along_fits None f = tt
  along_fits (Some s) f = let b = laid s f in subst (Fits dial x) (sym b.1) b.4

  swept_fits : Fits dial x (swept places x)
  swept_fits = along_fits (run places 0 x.len) ran

  along_holds : (n : ℕ) (r : Option Stretch) → Runs places 0 x.len r → n < 3600 → offset x.start n < x.len → places (offset x.start n) ≡ true → Holds dial (along x r) n
  along_holds n None f h l d = both_ways (places (offset x.start n)) (f (offset x.start n) (omega arith) l) d
  along_holds n (Some s) f h l d =
      let b = laid s f in
      let o = f.5 (offset x.start n) (omega arith) l d in
      subst (λ p. Holds dial p n) (sym b.1)
      (relative x b.0 n b.4 h ∙ from_to_true (begin x b.0) (end x b.0) (offset x.start n) (omega (arith, b.2, o)) (omega (arith, b.2, b.3, o, f.1)))

  -- where a point of x is, and that the test there is the test of the point
  placed : (n : ℕ) → holds x n ≡ true → (n < 3600) × (offset x.start n < x.len) × (places (offset x.start n) ≡ t n)
  placed n h =
      let p = and_parts (nat_lt n 3600) (nat_lt (offset x.start n) x.len) h in
      let l = ltb-true n 3600 p.0 in
      (l, ltb-true (offset x.start n) x.len p.1, ap t (point_offset x.start n x.placed l))

  swept_holds : (n : ℕ) → holds x n ≡ true → t n ≡ true → Holds dial (swept places x) n
  swept_holds n h e = let p = placed n h in along_holds n (run places 0 x.len) ran p.0 p.1 (p.2 ∙ e)

  swept_one : (n : ℕ) → x.len ≡ 1 → holds x n ≡ true → t n ≡ false → swept places x ≡ None
  swept_one n one h e =
      let p = placed n h in
      sym (ap (along x) (run_unique places 0 x.len x.len (omega arith) None (λ i low high. ap places (same i high p.1) ∙ p.2 ∙ e)))
    where
      same : (i : ℕ) → i < x.len → offset x.start n < x.len → i ≡ offset x.start n
      same i a b = omega arith

pub arc_sound : (a : Arc) → Sound dial (meaning (holds a) (kept a) (dropped a))
arc_sound a = record {
  keep_fits = λ x. swept_fits (holds a) x;
  shed_fits = λ x. swept_fits (λ n. not (holds a n)) x;
  keeps = λ x n h e. swept_holds (holds a) x n h e;
  sheds = λ x n h e. swept_holds (λ n. not (holds a n)) x n h (not_from_false (holds a n) e);
  keep_one = λ x n c h e. swept_one (holds a) x n c h e;
  shed_one = λ x n c h e. swept_one (λ n. not (holds a n)) x n c h (not_from_true (holds a n) e);
}
