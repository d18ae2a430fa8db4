use Rattle.std.{proofs.Common.{arith, refl}, proofs.lemmas.Result.{err_from_is_err_and}}
use Rattle.mob_typing.{specs.Statements.{with_column, with_columns}, proofs.Folded.{step_fails, step_made, steps_made}}
use Rattle.mob_typing.proofs.tables.with_columns.Goals as goal

pub returns-in_err-with_column : goal.returns-in_err-with_column
returns-in_err-with_column c =
    let p = err_from_is_err_and c.from_residual.result c.from_residual.ensures.1 in
    record {
      in_order = rw (p.1, p.2) (step_fails with_column with_columns (λ o x xs. refl) (λ o. refl) c.args.list.now c.loop-column.column-index c.loop-column.columns _ c.loop-column.invariant c.column-item.result (omega arith) c.column-item.is c.in_err-with_column.field-0.0 c.in_err-with_column.ensures.last);
    }

pub loop-column-preserved : goal.loop-column-preserved
loop-column-preserved c =
    step_made with_column with_columns (λ o x xs. refl) (λ o. refl) c.args.list.now c.loop-column.column-index c.loop-column.columns _ c.loop-column.invariant c.column-item.result (omega arith) c.column-item.is c.with_column.new.columns c.in_ok-with_column.ensures.last

pub returns : goal.returns
returns c = record { in_order = steps_made with_column with_columns (λ o x xs. refl) (λ o. refl) c.args.list.now c.loop-column.column-index c.loop-column.columns _ c.loop-column.invariant c.loop-column-test.false }
