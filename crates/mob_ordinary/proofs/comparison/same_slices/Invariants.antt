use Rattle.std.proofs.Common.{◌≡◌, drop}
use Rattle.mob_ordinary.proofs.comparison.same_slices.Given as goal

abbrev pub invariant-loop-i : goal.invariant-loop-i
invariant-loop-i g l = drop l.i l.left ≡ drop l.i l.right → l.left ≡ l.right
