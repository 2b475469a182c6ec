use Rattle.std.proofs.Common.{ℕ, ◌+◌, length, Some, None, Err, sym, ap, ◌∙◌, subst}
use Rattle.std.proofs.lemmas.Bool.{eqb-true, eqb-false}
use Rattle.std.proofs.lemmas.List.{nil_from_length}
use Rattle.std.proofs.lemmas.Result.{err_from_is_err_and}
use Rattle.domain.specs.Refusals.{code}
use Rattle.readings.specs.Requests.{Further}
use Rattle.readings.specs.Sorts.{NextLine}
use Rattle.readings.proofs.Bodies.{midway_begun, midway_more, ended_well, ended_ill, faulty, next_is}
use Rattle.readings.proofs.Chains.{fault_is, faultless}
use Rattle.readings.proofs.body.more_readings.Goals as goal

pub loop-reading-init : goal.loop-reading-init
loop-reading-init g c = midway_begun g.R.Entry.readings c.args.rest.now _ c.of-readings.result.len c.of-readings.ensures.1

pub returns-in_err-reading : goal.returns-in_err-reading
returns-in_err-reading g c =
    let p = err_from_is_err_and c.from_residual.result c.from_residual.ensures.1 in
    let q = fault_is (5 + c.from.result) c.next_line.result c.in_err-reading.field-0.0 c.in_err-reading.ensures in
    rw (p.1, p.2, q.2)
    (subst (λ (n : ℕ). Further g.R.Entry.readings c.args.first c.args.rest.now (Err (code q.0, 5 + n))) (sym c.from.ensures)
    (faulty g.R.Entry.readings c.loop-reading.invariant c.first_line.ensures c.args.first (code q.0) (rw q.1 at c.next_line.ensures)))

pub returns-in-None : goal.returns-in-None
returns-in-None g c =
    let n = c.loop-reading.readings.len in
    let line = c.first_line.result.0 in
    let after = c.first_line.result.1.now in
    let k = faultless (NextLine g.R.Entry.readings n line.text.now line.ended) (5 + c.from.result) c.next_line.result c.in_ok-reading.field-0 c.next_line.ensures c.in_ok-reading.ensures in
    ended_well g.R.Entry.readings c.loop-reading.invariant c.first_line.ensures c.args.first c.of-readings.ensures.0 (next_is g.R.Entry.readings n line.text.now line.ended c.in_ok-reading.field-0 None c.in-None.is k)
    (nil_from_length after (eqb-true (length after) 0 (sym c.is_empty.ensures ∙ c.if-is_empty.true)))

pub returns-in-None-2 : goal.returns-in-None-2
returns-in-None-2 g c =
    let n = c.loop-reading.readings.len in
    let line = c.first_line.result.0 in
    let after = c.first_line.result.1.now in
    let k = faultless (NextLine g.R.Entry.readings n line.text.now line.ended) (5 + c.from.result) c.next_line.result c.in_ok-reading.field-0 c.next_line.ensures c.in_ok-reading.ensures in
    subst (λ (n : ℕ). Further g.R.Entry.readings c.args.first c.args.rest.now (Err (15, 6 + n))) (sym c.from-in-None-2.ensures)
    (ended_ill g.R.Entry.readings c.loop-reading.invariant c.first_line.ensures c.args.first (next_is g.R.Entry.readings n line.text.now line.ended c.in_ok-reading.field-0 None c.in-None-2.is k)
    (λ e. eqb-false (length after) 0 (sym c.is_empty.ensures ∙ c.if-is_empty.false) (ap length e)))

pub loop-reading-preserved : goal.loop-reading-preserved
loop-reading-preserved g c =
    let n = c.loop-reading.readings.len in
    let line = c.first_line.result.0 in
    let k = faultless (NextLine g.R.Entry.readings n line.text.now line.ended) (5 + c.from.result) c.next_line.result c.in_ok-reading.field-0 c.next_line.ensures c.in_ok-reading.ensures in
    midway_more g.R.Entry.readings c.loop-reading.invariant c.first_line.ensures c.in-Some.reading _ c.add.new.self.len
    (next_is g.R.Entry.readings n line.text.now line.ended c.in_ok-reading.field-0 (Some c.in-Some.reading) c.in-Some.is k) c.add.ensures.0 c.add.ensures.1
