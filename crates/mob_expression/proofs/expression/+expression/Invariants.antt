use Rattle.std.proofs.Common.{◌≡◌, drop, map}
use Rattle.mob_ast.specs.Trees.{trees_of}
use Rattle.mob_scope.specs.Scopes.{scope_of}
use Rattle.mob_typed.specs.Trees.{typed_of}
use Rattle.mob_expression.{specs.Expressions.{typed_operands}, proofs.Behind.{behind}}
use Rattle.mob_expression.proofs.expression.+expression.Given as goal

abbrev pub invariant-type_operands-loop-operand : goal.invariant-type_operands-loop-operand
invariant-type_operands-loop-operand l = typed_operands (scope_of l.scope) (trees_of l.operands) l.fn.consts ≡ behind (map typed_of l.args.items) (typed_operands (scope_of l.scope) (trees_of (drop l.operand-index l.operands))) l.consts
