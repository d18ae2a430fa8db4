use Rattle.std.proofs.Common.{◌≡◌, [], drop}
use Rattle.mob_typing.specs.Statements.{with_columns}
use Rattle.mob_typing.proofs.tables.with_columns.Given as goal

abbrev pub invariant-loop-column : goal.invariant-loop-column
invariant-loop-column l = with_columns [] l.list ≡ with_columns l.columns (drop l.column-index l.list)
