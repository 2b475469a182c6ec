use Rattle.std.proofs.Common.{rules, ℕ, ◌-◌, ap, ◌∙◌}
use Rattle.contractor.specs.Layers.{all_kept, gathered}
use Rattle.layers.proofs.Asking.{answers_fit, answers_told}
use Rattle.layers.proofs.relaxed.RelaxedContractor.keep.Goals as goal

pub gathered-requires-clause-fits : goal.gathered-requires-clause-fits
gathered-requires-clause-fits g c =
    rw c.count-count.ensures
    (answers_fit (λ m. m.keep c.args.piece.now) (g.P.Panel.members c.args.self.now.panel) _ (λ k r p. search rules) g.P.Piece.Domain.maps c.args.piece.now
    (λ m s. s.keep_fits c.args.piece.now) (g.met.P.Panel.sound c.args.self.now.panel))

pub returns : goal.returns
returns g c =
    let ms = g.P.Panel.members c.args.self.now.panel in
    let q = c.args.self.now.liars in
    let os = all_kept ms c.args.piece.now in
    c.gathered.ensures os (rw c.count-count.ensures (answers_told (λ m. m.keep c.args.piece.now) ms _ (λ k r p. search rules)))
    ∙ ap (λ (n : ℕ). gathered g.P.Piece.Domain.maps c.args.piece.now os q (n - q)) c.count-count.ensures
