use Rattle.std.proofs.Common.{ℕ, ◌-◌, ◌∷◌, get_or, take, sym, refl, ap, ◌∙◌, arith}
use Rattle.sheet.specs.Rolls.{rolled, from}
use Rattle.sheet.proofs.Rolling.{from_take}
use Rattle.sheet.proofs.roll.Roll.take.Goals as goal

pub returns-then-self-eq0 : goal.returns-then-self-eq0
unfolding rolled
returns-then-self-eq0 g c = (ap (λ (n : ℕ). take n (from c.args.self.now.first c.args.self.now.items)) c.if-self-eq0.true, refl)

pub returns : goal.returns
unfolding rolled
returns g c =
    let s = c.args.self.now in
    from_take s.items s.first s.places s.begins s.len c.index-self-self.result (omega arith) s.most
    ∙ ap (λ (k : ℕ). get_or s.items s.first c.index-self-self.result ∷ take (s.len - 1) (from k s.items)) (sym c.place_after-self.ensures.0)
