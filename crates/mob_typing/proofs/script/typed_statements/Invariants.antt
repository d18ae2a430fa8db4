use Rattle.std.proofs.Common.{◌≡◌, [], drop, map}
use Rattle.mob_ast.specs.Trees.{statement_of}
use Rattle.mob_typing.{specs.Statements.{typed_from}, proofs.ScriptSteps.{behind_script}}
use Rattle.mob_typed.specs.Statements.{statement_seen}
use Rattle.mob_typing.proofs.script.typed_statements.Given as goal

abbrev pub invariant-loop-statement : goal.invariant-loop-statement
invariant-loop-statement l = typed_from 1 l.fn.names (map statement_of l.statements) [] ≡ behind_script (map statement_seen l.done) (typed_from l.number l.names (map statement_of (drop l.statement-index l.statements)) l.consts)
