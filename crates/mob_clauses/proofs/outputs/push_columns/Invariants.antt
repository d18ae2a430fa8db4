use Rattle.std.proofs.Common.{◌≡◌, ◌++◌, drop, map}
use Rattle.mob_clauses.specs.Outputs.{columns_of_table}
use Rattle.mob_typed.specs.Selects.{output_of}
use Rattle.mob_clauses.proofs.outputs.push_columns.Given as goal

abbrev pub invariant-loop-index : goal.invariant-loop-index
invariant-loop-index l = map output_of l.fn.columns.items ++ columns_of_table l.from 0 l.source l.place ≡ map output_of l.columns.items ++ columns_of_table l.from l.index (drop l.index l.source) l.place
