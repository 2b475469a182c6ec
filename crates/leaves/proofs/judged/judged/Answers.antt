use Rattle.std.proofs.Common.{◌∙◌}
use Rattle.leaves.proofs.Found.{none_across, some_across}
use Rattle.leaves.proofs.judged.judged.Goals as goal

pub returns-in_err-across : goal.returns-in_err-across
returns-in_err-across g c =
    λ f m.
    c.from_residual.ensures
    ∙ none_across (f c.args.reading) (f c.args.turned) c.args.piece.now c.spans.result.0 c.spans.result.1 c.spans.ensures.0 c.spans.ensures.1 (m _ _ _ _ c.in_err-across.ensures)

pub returns-in_err-up : goal.returns-in_err-up
returns-in_err-up g c =
    λ f m.
    c.from_residual-in_err-up.ensures
    ∙ some_across (f c.args.reading) (f c.args.turned) c.args.piece.now c.spans.result.0 c.spans.result.1 c.spans.ensures.0 c.spans.ensures.1
    c.in_ok-across.across (m _ _ _ _ c.in_ok-across.ensures) _ (m _ _ _ _ c.in_err-up.ensures)

pub returns : goal.returns
returns g c =
    λ f m.
    c.crossing.ensures
    ∙ some_across (f c.args.reading) (f c.args.turned) c.args.piece.now c.spans.result.0 c.spans.result.1 c.spans.ensures.0 c.spans.ensures.1
    c.in_ok-across.across (m _ _ _ _ c.in_ok-across.ensures) _ (m _ _ _ _ c.in_ok-up.ensures)
