use Rattle.std.{proofs.Common.{arith}, proofs.lemmas.List.{drop_all}, proofs.lemmas.Result.{err_from_is_err_and}}
use Rattle.mob_typing.proofs.RowSteps.{value_fails, value_more, values_done}
use Rattle.mob_typing.proofs.rows.row_values.Goals as goal

pub returns-in_err-number : goal.returns-in_err-number
returns-in_err-number c =
    let p = err_from_is_err_and c.from_residual.result c.from_residual.ensures.1 in
    record {
      in_order = rw (p.1, p.2) (value_fails c.args.statement c.args.columns.now c.args.values.now c.loop-index.index c.loop-index.done c.loop-index.consts _ c.loop-index.invariant
          (c.at-ty.result.0.now, c.at-ty.result.1) c.index-values-index.result c.at-ty.ensures.stored (omega arith) c.index-values-index.is c.in_err-number.field-0.0 c.in_err-number.ensures.read);
    }

pub loop-index-preserved : goal.loop-index-preserved
loop-index-preserved c =
    value_more c.args.statement c.args.columns.now c.args.values.now c.loop-index.index c.loop-index.done c.loop-index.consts _ c.loop-index.invariant
    (c.at-ty.result.0.now, c.at-ty.result.1) c.index-values-index.result c.at-ty.ensures.stored (omega arith) c.index-values-index.is c.in_ok-number.number c.tree_value.new.consts c.push.new.self c.in_ok-number.ensures.read c.in_ok-push.ensures.pushed

pub returns : goal.returns
returns c = record {
  in_order = values_done c.args.statement c.args.columns.now c.args.values.now c.loop-index.index c.loop-index.done c.loop-index.consts _ c.loop-index.invariant (drop_all c.loop-index.index c.args.columns.now (omega arith));
}
