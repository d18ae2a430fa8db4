use Rattle.mob_laws.proofs.ExpressionTypes.{run_expressions, typed_expressions}
use Rattle.mob_laws.proofs.aggregates.expressions_have_their_types.Goals as goal

pub returns : goal.returns
returns c =
    let rows = c.rows_have_meanings.ensures in
    record { typed = typed_expressions rows.rows rows.casts rows.settled; runs = run_expressions rows.rows rows.casts rows.settled c.queries_are_typed.ensures.typed }
