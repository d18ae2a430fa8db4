use Rattle.std.{specs.List.{list_any}, proofs.Common.{◌≡◌, drop, map}}
use Rattle.mob_ast.specs.Trees.{item_of}
use Rattle.mob_clauses.specs.Outputs.{is_aggregate_item}
use Rattle.mob_clauses.proofs.groups.any_aggregate.Given as goal

abbrev pub invariant-loop-item : goal.invariant-loop-item
invariant-loop-item l = list_any is_aggregate_item (map item_of l.items) ≡ list_any is_aggregate_item (map item_of (drop l.item-index l.items))
