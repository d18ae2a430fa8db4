use Rattle.std.proofs.Common.{arith}
use Rattle.mob_value.specs.Held.{held}
use Rattle.mob_eval.proofs.Counts.{no_cast}
use Rattle.mob_eval.proofs.operators.casting.cast.Goals as goal

pub returns-in_default : goal.returns-in_default
returns-in_default c = record { value = no_cast c.args.args.now c.args.ty (held c.args.operand.now) (λ e. omega (arith, c.in_default.len_at_least, e)) }
