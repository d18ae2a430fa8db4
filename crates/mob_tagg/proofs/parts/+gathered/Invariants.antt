use Rattle.std.proofs.Common.{length}
use Rattle.mob_tagg.proofs.parts.+gathered.Given as goal

abbrev pub decreases-gathered : goal.decreases-gathered
decreases-gathered g l = length l.parts.items
