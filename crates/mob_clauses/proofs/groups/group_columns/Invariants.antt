use Rattle.std.{specs.List.{flat_map}, proofs.Common.{◌≡◌, ◌++◌, drop, map}}
use Rattle.mob_ast.specs.Trees.{tree_of}
use Rattle.mob_scope.specs.Scopes.{scope_of}
use Rattle.mob_clauses.specs.Outputs.{group_column}
use Rattle.mob_clauses.proofs.groups.group_columns.Given as goal

abbrev pub invariant-loop-group : goal.invariant-loop-group
invariant-loop-group l = flat_map (group_column (scope_of l.scope)) (map tree_of l.groups) ≡ l.columns ++ flat_map (group_column (scope_of l.scope)) (map tree_of (drop l.group-index l.groups))
