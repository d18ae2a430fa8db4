use Rattle.std.proofs.Common.{◌≡◌, drop, map}
use Rattle.mob_value.specs.Lines.{level_line}
use Rattle.mob_ordinary.proofs.comparison.are_level.Given as goal

abbrev pub invariant-loop-i : goal.invariant-loop-i
invariant-loop-i l = map level_line (drop l.i l.steps) ≡ drop l.i l.lines → map level_line l.steps ≡ l.lines
