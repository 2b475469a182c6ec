use Rattle.std.proofs.Common.{rules, Ok, sym, ap, ◌∙◌, subst₂, arith}
use Rattle.layers.proofs.Filling.{Filled, filled_nothing, filled_more, filled_members, too_few, gathered_these}
use Rattle.layers.proofs.relaxed.answers.gathered.Goals as goal
use Rattle.layers.proofs.relaxed.answers.gathered.Goals.{in-Some, in_default}

pub loop-member-preserved : goal.loop-member-preserved
loop-member-preserved g c =
    let now = c.loop-member.invariant in
    elim c.match-unwrap.branch [
      | in-Some w ↦
          subst₂ (Filled _ _ _ _ _) (sym w.filled-is) (sym w.numbers-is)
          (filled_more _ _ _ _ c.loop-member.member _ _ (omega arith) now c.answer.result c.answer.ensures w.in-Some.part w.number.result
          (c.unwrap.ensures ∙ ap Ok w.in-Some.is) (c.requires.fits c.loop-member.member c.answer.result (omega arith) c.answer.ensures) w.number.ensures c.requires.few.0)
      | in_default w ↦
          subst₂ (Filled _ _ _ _ _) (sym w.filled-is) (sym w.numbers-is)
          (filled_nothing _ _ _ _ c.loop-member.member _ _ (omega arith) now c.answer.result c.answer.ensures (c.unwrap.ensures ∙ ap Ok w.in_default.is))
    ]

pub returns-then-members-filled : goal.returns-then-members-filled
returns-then-members-filled g c os t =
    too_few _ _ _ _ g.met.D.Domain.lawful c.loop-member.member _ _ (omega arith) c.loop-member.invariant os t c.args.most c.args.depth (omega arith)

pub unwrap-requires-2 : goal.unwrap-requires-2
unwrap-requires-2 g c =
    let members = filled_members _ _ _ _ g.met.D.Domain.lawful c.loop-member.member _ _ (omega arith) c.loop-member.invariant in
    search rules

pub returns : goal.returns
returns g c os t =
    gathered_these _ _ _ _ g.met.D.Domain.lawful c.loop-member.member _ _ (omega arith) c.loop-member.invariant os t c.args.most c.args.depth
    (omega arith) c.unwrap-2.result (search rules)
