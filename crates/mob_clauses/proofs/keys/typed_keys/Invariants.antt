use Rattle.std.proofs.Common.{◌≡◌, drop, map}
use Rattle.mob_ast.specs.Trees.{key_of}
use Rattle.mob_scope.specs.Scopes.{scope_of}
use Rattle.mob_clauses.{specs.Outputs.{outputs_seen}, specs.Keys.{typed_keys}}
use Rattle.mob_typed.specs.Selects.{key_seen}
use Rattle.mob_expression.proofs.Behind.{behind}
use Rattle.mob_clauses.proofs.keys.typed_keys.Given as goal

abbrev pub invariant-loop-key : goal.invariant-loop-key
invariant-loop-key l = typed_keys (scope_of l.scope) l.groups (outputs_seen l.outputs) (map key_of l.keys) l.fn.consts ≡ behind (map key_seen l.done) (typed_keys (scope_of l.scope) l.groups (outputs_seen l.outputs) (map key_of (drop l.key-index l.keys))) l.consts
