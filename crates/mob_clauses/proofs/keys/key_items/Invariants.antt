use Rattle.std.proofs.Common.{◌≡◌, ◌++◌, drop, map}
use Rattle.mob_ast.specs.Trees.{key_of}
use Rattle.mob_clauses.{specs.Outputs.{outputs_seen}, specs.Keys.{key_item}}
use Rattle.mob_clauses.proofs.keys.key_items.Given as goal

abbrev pub invariant-loop-key : goal.invariant-loop-key
invariant-loop-key l = map (key_item (outputs_seen l.outputs)) (map key_of l.keys) ≡ l.items ++ map (key_item (outputs_seen l.outputs)) (map key_of (drop l.key-index l.keys))
