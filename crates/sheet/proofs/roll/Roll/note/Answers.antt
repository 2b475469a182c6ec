use Rattle.std.proofs.Common.{ℕ, ◌+◌, take, set, ap, ◌∙◌}
use Rattle.sheet.specs.Rolls.{rolled, from}
use Rattle.sheet.proofs.Rolling.{from_note}
use Rattle.sheet.proofs.roll.Roll.note.Goals as goal

pub returns : goal.returns
unfolding rolled
returns g c =
    let s = c.args.self.now in
    ap (λ (k : ℕ). take (s.len + 1) (from s.first (set s.items k c.args.record))) c.place_after-at.ensures.0
    ∙ from_note s.items s.first s.places s.begins s.len c.args.record c.requires
