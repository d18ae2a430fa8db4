use Rattle.std.proofs.Common.{sym, ◌∙◌}
use Rattle.mob_eval.proofs.SameOps.{same_op, same_number, same_numbers, same_sign}
use Rattle.mob_eval.proofs.memory.chosen.same_op.Goals as goal

pub returns : goal.returns
returns c = record { same = λ h. same_op c.args.one c.args.other _ (same_number, (same_numbers, (same_sign, (same_sign, (same_sign, (same_sign, tt)))))) (sym c.eq.ensures ∙ h) }
