use Rattle.mob_arguments.proofs.Readings.{unread}
use Rattle.mob_tile_run.proofs.Numbers.{not_above}
use Rattle.mob_tile_run.proofs.reading.side_in.Goals as goal

pub returns-in_default-clause-none : goal.returns-in_default-clause-none
returns-in_default-clause-none c = λ h d k. unread c.args.text.now c.read_number.result d c.read_number.ensures.memory c.in_default.not-Ok c.read_number.ensures.reading k.0

pub returns-then-not-is_positive-clause-none : goal.returns-then-not-is_positive-clause-none
returns-then-not-is_positive-clause-none c = λ h d k. not_above c.args.text.now c.in-Ok.number d c.is_positive.result c.in-Ok.ensures.reading c.is_positive.ensures.exact c.if-not-is_positive.true k.0 k.1
