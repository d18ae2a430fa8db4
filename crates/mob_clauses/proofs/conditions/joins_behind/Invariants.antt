use Rattle.std.{specs.Prelude.{option_map}, proofs.Common.{◌≡◌, drop, map}}
use Rattle.mob_ast.specs.Trees.{from_of}
use Rattle.mob_scope.specs.Scopes.{scope_of}
use Rattle.mob_expression.proofs.Behind.{behind}
use Rattle.mob_typed.specs.Trees.{typed_of}
use Rattle.mob_clauses.specs.Conditions.{joins_from}
use Rattle.mob_clauses.proofs.conditions.joins_behind.Given as goal

abbrev pub invariant-loop-entry : goal.invariant-loop-entry
invariant-loop-entry l = behind (map (option_map typed_of) l.fn.first) (joins_from (scope_of l.scope) 0 1 (map from_of l.others)) l.fn.consts ≡ behind (map (option_map typed_of) l.joins) (joins_from (scope_of l.scope) l.start l.place (map from_of (drop l.entry-index l.others))) l.consts
