use Rattle.std.proofs.Common.{◌≡◌, drop, map}
use Rattle.mob_ast.specs.Trees.{row_of}
use Rattle.mob_typing.specs.Statements.{typed_rows}
use Rattle.mob_expression.proofs.Behind.{behind}
use Rattle.mob_typing.proofs.rows.typed_rows.Given as goal

abbrev pub invariant-loop-row : goal.invariant-loop-row
invariant-loop-row l = typed_rows l.statement l.columns (map row_of l.rows) l.fn.consts ≡ behind l.done (typed_rows l.statement l.columns (map row_of (drop l.row-index l.rows))) l.consts
