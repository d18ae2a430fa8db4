-- `pieces` of some workers calls `beside` with one fewer, whose closure calls `pieces` for these.
use Rattle.std.proofs.Common.{◌+◌, ◌*◌}
use Rattle.mob_fan.proofs.dividing.+pieces.Given as goal

abbrev pub decreases-pieces : goal.decreases-pieces
decreases-pieces g l = 3 * l.count

abbrev pub decreases-beside : goal.decreases-beside
decreases-beside g l = 3 * l.others + 2

abbrev pub decreases-beside-rest : goal.decreases-beside-rest
decreases-beside-rest g l = 3 * l.others + 1
