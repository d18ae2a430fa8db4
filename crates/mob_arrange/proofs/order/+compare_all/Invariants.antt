use Rattle.std.proofs.Common.{length}
use Rattle.mob_arrange.proofs.order.+compare_all.Given as goal

abbrev pub decreases-compare_all : goal.decreases-compare_all
decreases-compare_all l = length l.falls.now
