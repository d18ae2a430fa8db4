use Rattle.std.proofs.Common.{◌≡◌, drop, map}
use Rattle.mob_typed.specs.Selects.{output_of}
use Rattle.mob_clauses.specs.Outputs.{any_ungrouped}
use Rattle.mob_clauses.proofs.groups.any_ungrouped.Given as goal

abbrev pub invariant-loop-value : goal.invariant-loop-value
invariant-loop-value l = any_ungrouped l.groups (map output_of l.columns) ≡ any_ungrouped l.groups (map output_of (drop l.value-index l.columns))
