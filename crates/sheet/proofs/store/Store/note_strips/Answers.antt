use Rattle.std.proofs.Common.{[], ◌∷◌, length, ◌++◌, sym, refl, ap, ◌∙◌, subst, arith, rules}
use Rattle.std.proofs.lemmas.List.{append-nil, append_assoc, length-append}
use Rattle.domain.specs.Maps.{listed}
use Rattle.paving.specs.Steps.{entries}
use Rattle.sheet.specs.Stores.{Noted}
use Rattle.sheet.proofs.Storing.{noted_entries, entries_length, room_left}
use Rattle.sheet.proofs.store.Store.note_strips.Goals as goal

pub note-requires : goal.note-requires
note-requires g c =
    let ys = c.loop-strip.yielded in (
      search rules,
      room_left _ _ (entries c.args.class ys) (length (listed c.args.strips)) 1 c.loop-strip.invariant.1
          (omega (arith, entries_length c.args.class ys, ap length c.loop-strip.invariant.0, length-append ys (listed c.loop-strip.strip-iterator), ap length c.in-Some.ensures.steps.0)) c.requires,
    )

pub loop-strip-preserved : goal.loop-strip-preserved
loop-strip-preserved g c =
    let ys = c.loop-strip.yielded in
    (c.loop-strip.invariant.0 ∙ ap (λ xs. ys ++ xs) c.in-Some.ensures.steps.0 ∙ sym (append_assoc ys (c.in-Some.strip ∷ []) (listed c.next.new.self)), noted_entries _ _ _ c.args.class ys (c.in-Some.strip ∷ []) c.loop-strip.invariant.1 c.note.ensures)

pub returns : goal.returns
returns g c =
    let ys = c.loop-strip.yielded in
    subst (λ xs. Noted c.args.self.now (entries c.args.class xs) c.loop-strip.self) (sym (c.loop-strip.invariant.0 ∙ ap (λ xs. ys ++ xs) (c.in-None.ensures.steps.1 refl) ∙ append-nil ys)) c.loop-strip.invariant.1
