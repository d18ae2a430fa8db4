use Rattle.std.proofs.Common.{length}
use Rattle.mob_operators.proofs.lookup.+types_fit.Given as goal

abbrev pub decreases-types_fit : goal.decreases-types_fit
decreases-types_fit l = length l.classes.now
