use Rattle.std.proofs.Common.{◌≡◌, ◌++◌, drop, map}
use Rattle.mob_typed.specs.Trees.{typed_of, types_of}
use Rattle.mob_expression.proofs.operators.types_of.Given as goal

abbrev pub invariant-loop-arg : goal.invariant-loop-arg
invariant-loop-arg l = types_of (map typed_of l.args) ≡ l.types.items ++ types_of (map typed_of (drop l.arg-index l.args))
