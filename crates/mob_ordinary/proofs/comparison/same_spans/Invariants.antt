use Rattle.std.proofs.Common.{◌≡◌, drop}
use Rattle.mob_ordinary.proofs.comparison.same_spans.Given as goal

abbrev pub invariant-loop-i : goal.invariant-loop-i
invariant-loop-i l = drop l.i l.left ≡ drop l.i l.right → l.left ≡ l.right
