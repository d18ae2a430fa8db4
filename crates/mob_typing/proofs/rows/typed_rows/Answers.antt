use Rattle.std.{proofs.Common.{arith, map, refl, List}, proofs.lemmas.List.{drop_all}, proofs.lemmas.Result.{err_from_is_err_and}}
use Rattle.mob_ast.{specs.declared.statement.Row.{Row}, specs.Trees.{row_of}}
use Rattle.mob_expression.proofs.Behind.{entries_made, entry_fails, entry_made}
use Rattle.mob_typing.specs.Statements.{typed_row, typed_rows}
use Rattle.mob_typing.proofs.rows.typed_rows.Goals as goal

pub returns-in_err-values : goal.returns-in_err-values
returns-in_err-values c =
    let p = err_from_is_err_and c.from_residual.result c.from_residual.ensures.1 in
    record {
      in_order = rw (p.1, p.2) (entry_fails (λ (r : Row). typed_row c.args.statement c.args.columns.now (row_of r)) (λ (rs : List Row). typed_rows c.args.statement c.args.columns.now (map row_of rs)) (λ r rs cs. refl) (λ cs. refl)
          c.args.rows.now c.loop-row.row-index c.loop-row.done c.loop-row.consts _ c.loop-row.invariant c.row-item.result (omega arith) c.row-item.is c.in_err-values.field-0.0 c.in_err-values.ensures.row);
    }

pub loop-row-preserved : goal.loop-row-preserved
loop-row-preserved c =
    entry_made (λ (r : Row). typed_row c.args.statement c.args.columns.now (row_of r)) (λ (rs : List Row). typed_rows c.args.statement c.args.columns.now (map row_of rs)) (λ r rs cs. refl) (λ cs. refl)
    c.args.rows.now c.loop-row.row-index c.loop-row.done c.loop-row.consts _ c.loop-row.invariant c.row-item.result (omega arith) c.row-item.is c.in_ok-values.values c.typed_row.new.consts c.push.new.self c.in_ok-values.ensures.row c.in_ok-push.ensures.pushed

pub returns : goal.returns
returns c =
    record {
      in_order = entries_made (λ (r : Row). typed_row c.args.statement c.args.columns.now (row_of r)) (λ (rs : List Row). typed_rows c.args.statement c.args.columns.now (map row_of rs)) (λ r rs cs. refl) (λ cs. refl)
          c.args.rows.now c.loop-row.row-index c.loop-row.done c.loop-row.consts _ c.loop-row.invariant (drop_all c.loop-row.row-index c.args.rows.now c.loop-row-test.false);
    }
