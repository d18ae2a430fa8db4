use Rattle.std.{proofs.Common.{◌∙◌, arith}, proofs.lemmas.List.{take_all}, proofs.lemmas.Result.{err_from_is_err_and}}
use Rattle.mob_frac.specs.Fits.{Fits}
use Rattle.mob_knn.proofs.Scanning.{each_taken}
use Rattle.mob_near_run.proofs.Printing.{stopped_row, taken_next}
use Rattle.mob_near_run.proofs.answer.printed.Goals as goal

pub loop-row-init : goal.loop-row-init
loop-row-init c = record { printed = c.new-printed.ensures.empty; fit = tt }

pub returns-in_err-printed_row-clause-large : goal.returns-in_err-printed_row-clause-large
returns-in_err-printed_row-clause-large c =
    let p = err_from_is_err_and c.from_residual.result c.from_residual.ensures.1 in
    rw (p.1, p.2) (stopped_row c.args.rows.now c.loop-row.row-index c.row-item.result (omega arith) c.row-item.is c.loop-row.invariant.fit c.in_err-printed_row.field-0.0 c.in_err-printed_row.ensures.large)

pub loop-row-preserved : goal.loop-row-preserved
loop-row-preserved c =
    let at = c.loop-row in
    let xs = c.args.rows.now in
    let x = c.row-item.result in
    let h = c.in_ok-printed_row.ensures.printed in
    record {
      printed = taken_next xs at.row-index x _ at.printed _ (omega arith) c.row-item.is at.invariant.printed h.0 c.in_ok-push.ensures.pushed;
      fit = each_taken (λ r. Fits r.1) xs at.row-index x (omega arith) c.row-item.is at.invariant.fit h.1;
    }

pub returns-clause-printed : goal.returns-clause-printed
returns-clause-printed c = c.loop-row.invariant.printed ∙ take_all c.loop-row.row-index c.args.rows.now (omega arith)
