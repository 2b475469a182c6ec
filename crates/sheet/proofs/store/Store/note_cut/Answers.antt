use Rattle.std.proofs.Common.{[], ◌∷◌, ◌++◌, length, sym, ap, subst, arith, rules}
use Rattle.std.proofs.lemmas.List.{length-append}
use Rattle.std.specs.Option.{option_to_list}
use Rattle.domain.specs.Maps.{listed}
use Rattle.paving.specs.Steps.{entries}
use Rattle.paving.specs.declared.classes.Class.TheVariants.{Inside, Outside, Undecided}
use Rattle.sheet.specs.Cuts.{cut_entries}
use Rattle.sheet.specs.Stores.{Noted}
use Rattle.sheet.proofs.Storing.{noted_none, noted_append, entries_length, cut_length, room_left}
use Rattle.sheet.proofs.store.Store.note_cut.Goals as goal

pub note_strips-requires-2 : goal.note_strips-requires-2
note_strips-requires-2 g c =
    let xs = listed c.args.cut.now.outside in
    (search rules, room_left _ _ (entries Outside xs) (length (cut_entries c.args.cut.now)) _ c.note_strips.ensures (omega (arith, cut_length c.args.cut.now, entries_length Outside xs)) c.requires)

pub note-requires : goal.note-requires
note-requires g c =
    let q = c.args.cut.now in
    let es = entries Outside (listed q.outside) ++ entries Inside (listed q.inside) in (
      search rules,
      room_left _ _ es (length (cut_entries q)) 1 (noted_append _ _ _ (entries Outside (listed q.outside)) (entries Inside (listed q.inside)) c.note_strips.ensures c.note_strips-2.ensures)
          (omega (arith, cut_length q, length-append (entries Outside (listed q.outside)) (entries Inside (listed q.inside)), entries_length Outside (listed q.outside), entries_length Inside (listed q.inside), ap (λ o. length (option_to_list o)) c.in-Some.is)) c.requires,
    )

pub returns-in-Some : goal.returns-in-Some
returns-in-Some g c =
    let q = c.args.cut.now in
    let before = entries Outside (listed q.outside) in
    let middle = entries Inside (listed q.inside) in
    subst (λ o. Noted c.args.self.now (before ++ (middle ++ entries Undecided (option_to_list o))) c.note.new.self) (sym c.in-Some.is)
    (noted_append _ _ _ before (middle ++ entries Undecided (c.in-Some.piece ∷ [])) c.note_strips.ensures
    (noted_append _ _ _ middle (entries Undecided (c.in-Some.piece ∷ [])) c.note_strips-2.ensures c.note.ensures))

pub returns-in_default : goal.returns-in_default
returns-in_default g c =
    let q = c.args.cut.now in
    let before = entries Outside (listed q.outside) in
    let middle = entries Inside (listed q.inside) in
    subst (λ o. Noted c.args.self.now (before ++ (middle ++ entries Undecided (option_to_list o))) c.note_strips-2.new.self) (sym c.in_default.is)
    (noted_append _ _ _ before (middle ++ []) c.note_strips.ensures
    (noted_append _ _ _ middle [] c.note_strips-2.ensures (noted_none c.note_strips-2.new.self)))
