use Rattle.std.proofs.Common.{arith}
use Rattle.mob_eval.proofs.Counts.{no_meeting}
use Rattle.mob_eval.proofs.operators.meeting.meeting.Goals as goal

pub returns-in_default : goal.returns-in_default
returns-in_default c = record { value = no_meeting c.args.args.now (λ e. omega (arith, c.in_default.len_below, e)) }

pub returns-in_default-2 : goal.returns-in_default-2
returns-in_default-2 c = record { value = no_meeting c.args.args.now (λ e. omega (arith, c.in_default.len_at_least, e)) }
