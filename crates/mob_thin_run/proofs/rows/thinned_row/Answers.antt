use Rattle.std.{proofs.Common.{rules, arith}, proofs.lemmas.Result.{err_from_is_err_and}}
use Rattle.mob_thin_run.proofs.rows.thinned_row.Goals as goal
use Rattle.mob_thin_run.{specs.ThinRows.{IsThinValue}, proofs.Zips.{zip_next, all_more, test_fault_at}}

pub returns-in_err-next-clause-first : goal.returns-in_err-next-clause-first
returns-in_err-next-clause-first c =
    let at = c.loop-value in
    let p = err_from_is_err_and c.from_residual.result c.from_residual.ensures.1 in
    rw (p.1, p.2) (test_fault_at c.args.mode c.args.d.now c.args.row.now at.value-index c.value-item.result c.in_err-next.field-0.0 (omega arith) c.value-item.is at.invariant.fit c.in_err-next.ensures.first)

pub loop-value-preserved : goal.loop-value-preserved
loop-value-preserved c =
    let at = c.loop-value in
    record {
      made = zip_next c.args.row.now at.value-index c.value-item.result (omega arith) c.value-item.is (IsThinValue c.args.d.now) at.thin c.push.new.self c.in_ok-next.next (search rules) at.invariant.made c.in_ok-next.ensures.thin;
      fit = all_more c.args.row.now at.value-index c.value-item.result (omega arith) c.value-item.is _ at.invariant.fit c.in_ok-next.ensures.first;
    }
