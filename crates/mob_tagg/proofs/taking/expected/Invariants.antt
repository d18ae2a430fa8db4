use Rattle.std.proofs.Common.{◌+◌, length}
use Rattle.mob_tagg.proofs.taking.expected.Given as goal

abbrev pub invariant-ends : goal.invariant-ends
invariant-ends g l = Unit {0}

abbrev pub decreases-ends : goal.decreases-ends
decreases-ends g l = length l.lefts + length l.rights
