use Rattle.std.proofs.Common.{◌≡◌, drop, map}
use Rattle.mob_ast.specs.Trees.{tree_of}
use Rattle.mob_typing.specs.Statements.{row_values}
use Rattle.mob_expression.proofs.Behind.{behind}
use Rattle.mob_typing.proofs.rows.row_values.Given as goal

abbrev pub invariant-loop-index : goal.invariant-loop-index
invariant-loop-index l = row_values l.statement l.columns (map tree_of l.values) l.fn.consts ≡ behind l.done (row_values l.statement (drop l.index l.columns) (map tree_of (drop l.index l.values))) l.consts
