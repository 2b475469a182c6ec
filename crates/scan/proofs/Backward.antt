-- A search backward over a range finds the last index that passes.
use Rattle.std.proofs.Common.{◌≡◌, ℕ, ◌+◌, ◌-◌, Bool, true, false, List, [], ◌∷◌, Some, None, Option, IfSome, sym, subst, arith, Bor}
use Rattle.std.specs.Fn.{CalledAt}
use Rattle.std.specs.List.{FoldsTo}
use Rattle.std.specs.Range.{range_steps_back}
use Rattle.std.specs.Iterator.{YieldsThen}
use Rattle.std.specs.Iterator.Adapters.{rev_steps}
use Rattle.std.specs.declared.iter.Rev.{Rev}
use Rattle.std.specs.declared.ops.Range.{Range}
use denote.Param.Members.{Mut}
use Rattle.scan.specs.Live.{Last}
use Rattle.scan.proofs.Runs.{last_step}

-- from the back, the end moves down by one and comes
abbrev pub back : Rev (Range ℕ) → Option ℕ → Rev (Range ℕ) → Type 0
back = rev_steps (range_steps_back (λ (x y : ℕ). y - x) (λ (x y : ℕ). y ≡ x + 1))

module _ (p : ℕ → Bool) {F : Type 0} {g : Mut F (Bor ℕ × Unit {0}) Bool} (f : F) (yes : (i : ℕ) (q : F) → CalledAt g f i true q → p i ≡ true) (no : (i : ℕ) (q : F) → CalledAt g f i false q → (q ≡ f) × (p i ≡ false)) where
  here : (s u : Rev (Range ℕ)) (r : Option ℕ) → back s r u → IfSome r (λ x. (h : F) × CalledAt g f x true h) → Last p s.iter.start s.iter.end r
  here s u None b t = λ i low high. absurd (omega (arith, b.1.0))
  here s u (Some x) b t = (omega (arith, b.1), omega (arith, b.1), yes x t.0 t.1, λ i low high. absurd (omega (arith, b.1)))

  along : (s u : Rev (Range ℕ)) (r : Option ℕ) (xs : List ℕ) (j : F) → YieldsThen back s xs r u → FoldsTo (λ k x q. CalledAt g k x false q) f xs j → IfSome r (λ x. (h : F) × CalledAt g j x true h) → Last p s.iter.start s.iter.end r
  along s u r [] j y k t =
      here s u r (subst (λ z. back z r u) (sym y.1) y.2) (subst (λ z. IfSome r (λ x. (h : F) × CalledAt g z x true h)) (sym k) t)
  along s u r (x ∷ xs) j y k t =
      let n = no x k.0 k.1 in
      let b = y.1.1 in
      let rest = along y.1.0 u r xs j (y.0, y.1.2, y.2) (subst (λ z. FoldsTo (λ l w q. CalledAt g l w false q) z xs j) n.0 k.2) t in
      last_step p s.iter.start x s.iter.end r false (omega (arith, b.1)) (omega (arith, b.1)) n.1
      (subst (λ (e : ℕ). Last p s.iter.start e r) (sym b.1.1) (subst (λ (a : ℕ). Last p a y.1.0.iter.end r) b.0 rest))

  pub last_back : (s u : Rev (Range ℕ)) (r : Option ℕ) → (xs : List ℕ) × (j : F) × YieldsThen back s xs r u × FoldsTo (λ k x q. CalledAt g k x false q) f xs j × IfSome r (λ x. (h : F) × CalledAt g j x true h) → Last p s.iter.start s.iter.end r
  last_back s u r d = along s u r d.0 d.1 d.2 d.3 d.4
