use Rattle.paving.specs.declared.turns.Turn.TheVariants.{Tally}
use Rattle.sheet.proofs.Counting.{tally_does}
use Rattle.sheet.proofs.Turning.{turned}
use Rattle.sheet.proofs.sheet.Sheet.tally.Goals as goal

pub returns : goal.returns
returns g c =
    let s = c.args.self.now in
    let l = g.met.C.Piece.Domain.lawful in
    let sound = g.met.C.Contractor.sound in
    turned l sound s Tally _ s.store (tally_does l sound s c.points_waiting.result c.points_on_roll.result c.points_waiting.ensures c.points_on_roll.ensures) s.made
