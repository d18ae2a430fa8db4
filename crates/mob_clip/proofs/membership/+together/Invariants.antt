use Rattle.std.proofs.Common.{length}
use Rattle.mob_clip.proofs.membership.+together.Given as goal

abbrev pub decreases-together : goal.decreases-together
decreases-together l = length l.edges.now
