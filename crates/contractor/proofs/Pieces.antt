-- What follows from a domain's laws of answers that fit.
use Rattle.std.proofs.Common.{◌≡◌, ℕ, true, Some, None, Option, sym, subst, MatchOption}
use Rattle.domain.specs.Laws.{Laws}
use Rattle.domain.specs.Maps.{Maps, Fits, Holds}

module _ {P : Type 0} (d : Maps P) (l : Laws d) where
  -- what fits a sub-piece fits the piece
  pub fits_up : (x y : P) (o : Option P) → d.within y x ≡ true → Fits d y o → Fits d x o
  fits_up x y None w f = tt
  fits_up x y (Some z) w f = l.transitive z y x f w

  -- a span fits, and holds what either of the two holds
  span_of_two : (x p q : P) (o : Option P) → MatchOption o ⊥ (λ s. (d.within s x ≡ true) × (d.within p s ≡ true) × (d.within q s ≡ true)) → Fits d x o
  span_of_two x p q None c = tt
  span_of_two x p q (Some s) c = c.0

  pub span_fits : (x : P) (o p : Option P) → Fits d x o → Fits d x p → Fits d x (d.span x o p)
  span_fits x None None f g = subst (λ s. Fits d x s) (sym (l.span_none x)) tt
  span_fits x None (Some q) f g = subst (λ s. Fits d x s) (sym (l.span_right x q g)) g
  span_fits x (Some p) None f g = subst (λ s. Fits d x s) (sym (l.span_left x p f)) f
  span_fits x (Some p) (Some q) f g = span_of_two x p q (d.span x (Some p) (Some q)) (l.span_within x p q f g)

  span_left_holds : (x p q : P) (o : Option P) (n : ℕ) → MatchOption o ⊥ (λ s. (d.within s x ≡ true) × (d.within p s ≡ true) × (d.within q s ≡ true)) → d.holds p n ≡ true → Holds d o n
  span_left_holds x p q None n c h = c
  span_left_holds x p q (Some s) n c h = l.held p s c.1 n h

  span_right_holds : (x p q : P) (o : Option P) (n : ℕ) → MatchOption o ⊥ (λ s. (d.within s x ≡ true) × (d.within p s ≡ true) × (d.within q s ≡ true)) → d.holds q n ≡ true → Holds d o n
  span_right_holds x p q None n c h = c
  span_right_holds x p q (Some s) n c h = l.held q s c.2 n h

  pub span_holds_left : (x : P) (o p : Option P) (n : ℕ) → Fits d x o → Fits d x p → Holds d o n → Holds d (d.span x o p) n
  span_holds_left x None p n f g h = absurd h
  span_holds_left x (Some q) None n f g h = subst (λ s. Holds d s n) (sym (l.span_left x q f)) h
  span_holds_left x (Some q) (Some r) n f g h = span_left_holds x q r (d.span x (Some q) (Some r)) n (l.span_within x q r f g) h

  pub span_holds_right : (x : P) (o p : Option P) (n : ℕ) → Fits d x o → Fits d x p → Holds d p n → Holds d (d.span x o p) n
  span_holds_right x o None n f g h = absurd h
  span_holds_right x None (Some r) n f g h = subst (λ s. Holds d s n) (sym (l.span_right x r g)) h
  span_holds_right x (Some q) (Some r) n f g h = span_right_holds x q r (d.span x (Some q) (Some r)) n (l.span_within x q r f g) h
