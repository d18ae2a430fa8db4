use Rattle.mob_slice.specs.Sides.{operand_of, given_at}
use Rattle.mob_compare.proofs.Answering.{always_is}
use Rattle.mob_compare.proofs.ever.decided.always.Goals as goal

pub returns-clause-value : goal.returns-clause-value
returns-clause-value g c = rw c.contrary.ensures.value (always_is (g.C.Compared.relation c.args.rel) (given_at g.C.Course.value_of (operand_of c.args.a)) (given_at g.C.Course.value_of (operand_of c.args.b)) c.in_ok-sometime.field-0 c.in_ok-sometime.ensures.value)
