use Rattle.std.proofs.Common.{◌+◌, ◌-◌, ◌++◌, ℕ, take, drop, length, ap, ◌∙◌, arith}
use Rattle.std.proofs.lemmas.List.{append-nil, length-drop, take_all}
use Rattle.sheet.specs.Rolls.{rolled}
use Rattle.sheet.proofs.Rolling.{from_on, from_round}
use Rattle.sheet.proofs.roll.Roll.as_slices.Goals as goal

pub returns-then-end-le1024 : goal.returns-then-end-le1024
unfolding rolled
returns-then-end-le1024 g c =
    let s = c.args.self.now in
    append-nil _ ∙ ap (λ (n : ℕ). take n (drop s.first s.items)) (omega arith)
    ∙ from_on s.items s.first s.places s.begins s.len c.if-end-le1024.true

pub returns : goal.returns
unfolding rolled
returns g c =
    let s = c.args.self.now in
    ap (λ xs. xs ++ take (s.first + s.len - 1024) s.items) (take_all (length s.items - s.first) (drop s.first s.items) (omega (arith, length-drop s.first s.items)))
    ∙ from_round s.items s.first s.places s.begins s.len (omega (arith, c.if-end-le1024.false)) s.most
