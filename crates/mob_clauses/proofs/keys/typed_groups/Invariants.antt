use Rattle.std.proofs.Common.{◌≡◌, [], drop, map}
use Rattle.mob_ast.specs.Trees.{tree_of}
use Rattle.mob_scope.specs.Scopes.{scope_of}
use Rattle.mob_typed.specs.Trees.{typed_of}
use Rattle.mob_clauses.specs.Keys.{with_groups}
use Rattle.mob_clauses.proofs.keys.typed_groups.Given as goal

abbrev pub invariant-loop-group : goal.invariant-loop-group
invariant-loop-group l = with_groups (scope_of l.scope) [] (map tree_of l.groups) ≡ with_groups (scope_of l.scope) (map typed_of l.done) (map tree_of (drop l.group-index l.groups))
