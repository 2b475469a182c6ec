use Rattle.std.proofs.Common.{◌≡◌, [], ◌∷◌, Some, sym, ap, ◌∙◌, subst, arith}
use Rattle.std.specs.Option.{option_to_list}
use Rattle.domain.specs.Maps.{Fits, listed}
use Rattle.contractor.specs.Means.{means}
use Rattle.sheet.specs.Cuts.{cut_back}
use Rattle.sheet.specs.Standing.{task_of}
use Rattle.sheet.proofs.Parting.{given_ok, given_value, cut_made, small_left, large_left}
use Rattle.sheet.proofs.sheet.Sheet.cut.Goals as goal

pub unwrap-outside-requires : goal.unwrap-outside-requires
unwrap-outside-requires g c =
    given_ok _ _ 1 c.strips.result c.strips.ensures (subst (Fits g.C.Piece.Domain.maps c.args.piece.now) c.requires ((g.met.C.Contractor.sound c.args.self.now.contractor).keep_fits c.args.piece.now))

pub unwrap-inside-requires : goal.unwrap-inside-requires
unwrap-inside-requires g c =
    given_ok _ _ 1 c.strips-2.result c.strips-2.ensures (subst (Fits g.C.Piece.Domain.maps c.args.kept.now) (sym c.in-Some.ensures) ((g.met.C.Contractor.sound c.args.self.now.contractor).shed_fits c.args.kept.now))

pub returns-then-size : goal.returns-then-size
returns-then-size g c =
    let t = task_of g.C.Piece.Domain.maps (means g.C.Contractor) c.args.self.now in
    let s = c.settled-settled.ensures in
    let h = small_left t c.in-Some.rest (λ e. c.if-count-eq1.false (c.count.ensures ∙ e)) (omega (arith, c.if-size.true, c.size.ensures, c.size-2.ensures)) in
    cut_made t c.args.piece.now c.args.kept.now (Some c.in-Some.rest) _ (sym c.in-Some.ensures)
    (ap (λ q. listed q.outside) s ∙ given_value _ _ 1 c.strips.result _ c.unwrap-outside.ensures c.strips.ensures)
    (ap (λ q. listed q.inside) s ∙ given_value _ _ 1 c.strips-2.result _ c.unwrap-inside.ensures c.strips-2.ensures)
    h.0 (ap cut_back s ∙ h.1)

pub unwrap-low-requires : goal.unwrap-low-requires
unwrap-low-requires g c =
    let l = g.met.C.Piece.Domain.lawful.some c.in-Some.rest in
    let n : g.C.Piece.Domain.maps.count c.in-Some.rest ≡ 1 → ⊥ = λ e. c.if-count-eq1.false (c.count.ensures ∙ e) in
    given_ok _ _ 1 c.halves.result c.halves.ensures (omega (arith, l, n))

pub returns : goal.returns
returns g c =
    let t = task_of g.C.Piece.Domain.maps (means g.C.Contractor) c.args.self.now in
    let s = c.settled-settled.ensures in
    let h = large_left t c.in-Some.rest (λ e. c.if-count-eq1.false (c.count.ensures ∙ e)) (omega (arith, c.if-size.false, c.size.ensures, c.size-2.ensures)) in
    cut_made t c.args.piece.now c.args.kept.now (Some c.in-Some.rest) _ (sym c.in-Some.ensures)
    (ap (λ q. listed q.outside) s ∙ given_value _ _ 1 c.strips.result _ c.unwrap-outside.ensures c.strips.ensures)
    (ap (λ q. listed q.inside) s ∙ given_value _ _ 1 c.strips-2.result _ c.unwrap-inside.ensures c.strips-2.ensures)
    (ap (λ q. option_to_list q.undecided) s ∙ h.0)
    (ap (λ q. q.0 ∷ q.1 ∷ []) (given_value _ _ 1 c.halves.result _ c.unwrap-low.ensures c.halves.ensures) ∙ h.1)
