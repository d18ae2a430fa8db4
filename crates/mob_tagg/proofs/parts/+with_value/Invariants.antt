use Rattle.std.proofs.Common.{length}
use Rattle.mob_tagg.proofs.parts.+with_value.Given as goal

abbrev pub decreases-with_value : goal.decreases-with_value
decreases-with_value g l = length l.parts.items
