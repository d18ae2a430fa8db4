use Rattle.mob_laws.proofs.AggregateValues.{aggregate_rows, run_columns, typed_columns}
use Rattle.mob_laws.proofs.aggregates.aggregates_have_meanings.Goals as goal

pub returns : goal.returns
returns c =
    let evaluated = c.one_value.ensures.evaluated in
    let typed = c.expressions_have_their_types.ensures.typed in
    record { rows = aggregate_rows; typed = typed_columns evaluated typed; runs = run_columns evaluated typed c.queries_are_typed.ensures.typed }
