use Rattle.std.proofs.Common.{◌≡◌, drop, map}
use Rattle.mob_ast.specs.Trees.{item_of}
use Rattle.mob_scope.specs.Scopes.{scope_of}
use Rattle.mob_clauses.specs.Outputs.{with_items, no_outputs, outputs_seen}
use Rattle.mob_clauses.proofs.outputs.outputs_of.Given as goal

abbrev pub invariant-loop-item : goal.invariant-loop-item
invariant-loop-item l = with_items (scope_of l.scope) l.groups no_outputs (map item_of l.items) l.fn.consts ≡ with_items (scope_of l.scope) l.groups (outputs_seen l.outputs) (map item_of (drop l.item-index l.items)) l.consts
