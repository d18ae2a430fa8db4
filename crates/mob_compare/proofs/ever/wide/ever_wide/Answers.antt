use Rattle.std.proofs.lemmas.Result.{IfOk-weaker}
use Rattle.mob_slice.specs.Sides.{operand_of, given_at}
use Rattle.mob_compare.proofs.Answering.{ever_is}
use Rattle.mob_compare.proofs.ever.wide.ever_wide.Goals as goal

pub returns : goal.returns
returns g c = record { value = IfOk-weaker c.sometime_wide.result _ _ (λ r h. ever_is (g.C.Compared.relation c.args.rel) (given_at g.C.Course.value_of (operand_of c.args.a)) (given_at g.C.Course.value_of (operand_of c.args.b)) r h) c.sometime_wide.ensures.value }
