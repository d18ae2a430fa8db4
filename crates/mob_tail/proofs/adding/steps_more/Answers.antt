use Rattle.std.proofs.Common.{sym}
use Rattle.mob_tail.proofs.adding.steps_more.Goals as goal

pub returns-in-Err-clause-fault : goal.returns-in-Err-clause-fault
returns-in-Err-clause-fault c = rw (sym c.in-Some-steps_of.ensures.slices, sym c.in-Some.ensures.slices) c.in-Err.ensures.first
