use Rattle.std.proofs.Common.{sym, ◌∙◌}
use Rattle.mob_arguments.proofs.Readings.{negative, unread}
use Rattle.mob_arguments.proofs.readers.distance_in.Goals as goal

pub returns-in_default-clause-none : goal.returns-in_default-clause-none
returns-in_default-clause-none c = λ h d k. unread c.args.text.now c.read_number.result d c.read_number.ensures.memory c.in_default.not-Ok c.read_number.ensures.reading k.0

pub returns-then-is_before-clause-none : goal.returns-then-is_before-clause-none
returns-then-is_before-clause-none c = λ h d k. negative c.args.text.now c.in-Ok.number d c.in-Ok.ensures.reading (sym (rw c.zero.ensures.value at c.is_before.ensures.value) ∙ c.if-is_before.true) k
