use Rattle.std.proofs.Common.{◌≡◌, ◌++◌, drop, map}
use Rattle.mob_value.specs.Lines.{level_line}
use Rattle.mob_value.proofs.lines.widen.Given as goal

abbrev pub invariant-loop-slice : goal.invariant-loop-slice
invariant-loop-slice l = l.lines.items ++ map level_line (drop l.slice-index l.slices) ≡ map level_line l.slices
