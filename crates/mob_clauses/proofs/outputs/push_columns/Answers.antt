use Rattle.std.{proofs.Common.{◌∙◌, ap, arith, map}, proofs.lemmas.Result.{err_from_is_err_and}}
use Rattle.mob_typed.specs.Selects.{output_of}
use Rattle.mob_clauses.proofs.Pushed.{good, column_pushed, columns_done, still_free}
use Rattle.mob_clauses.proofs.outputs.push_columns.Goals as goal

pub loop-index-preserved : goal.loop-index-preserved
loop-index-preserved c =
    c.loop-index.invariant ∙ column_pushed c.args.from c.loop-index.index c.in_ok-column.column c.args.source.now c.at-ty.result.0.now c.at-ty.result.1 c.args.place
    (map output_of c.loop-index.columns.items) (map output_of c.push_column.new.columns.items) c.at-ty.ensures.stored c.in_ok-column.ensures.same c.in_ok-push_column.ensures.last

pub returns-in_err-column : goal.returns-in_err-column
returns-in_err-column c =
    let p = err_from_is_err_and c.from_residual.result c.from_residual.ensures.1 in
    record { behind = rw (p.1, p.2) (still_free c.in_err-column.field-0.0 _ _ c.in_err-column.ensures.same) }

pub returns-in_err-push_column : goal.returns-in_err-push_column
returns-in_err-push_column c =
    let p = err_from_is_err_and c.from_residual-in_err-push_column.result c.from_residual-in_err-push_column.ensures.1 in
    record { behind = rw (p.1, p.2) (still_free c.in_err-push_column.field-0.0 _ _ c.in_err-push_column.ensures.last) }

pub returns : goal.returns
returns c =
    let count = c.len-index-end.ensures.count in
    record { behind = ap good (c.loop-index.invariant ∙ columns_done c.args.from c.loop-index.index c.args.source.now c.args.place (map output_of c.loop-index.columns.items) (omega (arith, count))) }
