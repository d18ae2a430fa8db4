use Rattle.mob_expression.specs.Expressions.{finished}
use Rattle.mob_expression.proofs.operators.operator_of.Goals as goal

pub returns-in-IsNotNull : goal.returns-in-IsNotNull
unfolding finished
returns-in-IsNotNull c = record { typed = λ ts same. rw c.in-IsNotNull.is (c.operated-in-IsNotNull.ensures.typed ts same) }
