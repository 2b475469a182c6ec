use Rattle.std.proofs.lemmas.Result.{err_from_is_err_and}
use Rattle.readings.specs.Sorts.{SheetLine, LiarsLine, GrainLine}
use Rattle.readings.proofs.Chains.{stopped_at, passed_at}
use Rattle.readings.proofs.read.read_lines.Goals as goal

pub returns-in_err-kind : goal.returns-in_err-kind
returns-in_err-kind c =
    let p = err_from_is_err_and c.from_residual.result c.from_residual.ensures.1 in
    rw (p.1, p.2) (stopped_at SheetLine 1 _ c.args.file.now _ _ _ c.sheet_line.result c.in_err-kind.field-0.0 c.first_line.ensures c.sheet_line.ensures c.in_err-kind.ensures)

pub returns-in_err-liars : goal.returns-in_err-liars
returns-in_err-liars c =
    let p = err_from_is_err_and c.from_residual-in_err-liars.result c.from_residual-in_err-liars.ensures.1 in
    rw (p.1, p.2)
    (passed_at SheetLine 1 _ c.args.file.now _ _ _ c.sheet_line.result c.in_ok-kind.kind _ c.first_line.ensures c.sheet_line.ensures c.in_ok-kind.ensures
    (stopped_at LiarsLine 2 _ _ _ _ _ c.liars_line.result c.in_err-liars.field-0.0 c.first_line-2.ensures c.liars_line.ensures c.in_err-liars.ensures))

pub returns-in_err-grain : goal.returns-in_err-grain
returns-in_err-grain c =
    let p = err_from_is_err_and c.from_residual-in_err-grain.result c.from_residual-in_err-grain.ensures.1 in
    rw (p.1, p.2)
    (passed_at SheetLine 1 _ c.args.file.now _ _ _ c.sheet_line.result c.in_ok-kind.kind _ c.first_line.ensures c.sheet_line.ensures c.in_ok-kind.ensures
    (passed_at LiarsLine 2 _ _ _ _ _ c.liars_line.result c.in_ok-liars.liars _ c.first_line-2.ensures c.liars_line.ensures c.in_ok-liars.ensures
    (stopped_at GrainLine 3 _ _ _ _ _ c.grain_line.result c.in_err-grain.field-0.0 c.first_line-3.ensures c.grain_line.ensures c.in_err-grain.ensures)))

pub returns : goal.returns
returns c =
    passed_at SheetLine 1 _ c.args.file.now _ _ _ c.sheet_line.result c.in_ok-kind.kind _ c.first_line.ensures c.sheet_line.ensures c.in_ok-kind.ensures
    (passed_at LiarsLine 2 _ _ _ _ _ c.liars_line.result c.in_ok-liars.liars _ c.first_line-2.ensures c.liars_line.ensures c.in_ok-liars.ensures
    (passed_at GrainLine 3 _ _ _ _ _ c.grain_line.result c.in_ok-grain.grain _ c.first_line-3.ensures c.grain_line.ensures c.in_ok-grain.ensures c.read_kind.ensures))
