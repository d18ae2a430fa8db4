use Rattle.std.proofs.Common.{sym}
use Rattle.mob_tail.proofs.adding.lines_more.Goals as goal

pub returns-in-Err-clause-fault : goal.returns-in-Err-clause-fault
returns-in-Err-clause-fault c = rw (sym c.in-Some-lines_of.ensures.slices, sym c.in-Some.ensures.slices) c.in-Err.ensures.first
