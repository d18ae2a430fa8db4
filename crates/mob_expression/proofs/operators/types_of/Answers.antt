use Rattle.std.proofs.Common.{◌∙◌, ◌++◌, ◌∷◌, [], sym, ap, arith}
use Rattle.mob_typed.specs.Trees.{typed_of, type_of}
use Rattle.mob_expression.proofs.Lists.{mapped_more, mapped_all}
use Rattle.mob_expression.proofs.operators.types_of.Goals as goal

pub loop-arg-preserved : goal.loop-arg-preserved
loop-arg-preserved c =
    c.loop-arg.invariant ∙ mapped_more typed_of type_of c.args.args.now c.loop-arg.arg-index c.arg-item.result c.loop-arg.types.items c.push.new.self.items (omega arith) c.arg-item.is
    (c.in_ok-push.ensures.items ∙ ap (λ t. c.loop-arg.types.items ++ t ∷ []) c.type_of.ensures.own_type)

pub returns : goal.returns
returns c = record { in_order = sym (c.loop-arg.invariant ∙ mapped_all typed_of type_of c.args.args.now c.loop-arg.arg-index c.loop-arg.types.items c.loop-arg-test.false) }
