use Rattle.std.proofs.Common.{◌≡◌, ◌++◌, drop, map}
use Rattle.mob_typed.specs.Selects.{output_of}
use Rattle.mob_clauses.specs.Outputs.{no_agg}
use Rattle.mob_clauses.proofs.outputs.push_no_aggs.Given as goal

abbrev pub invariant-loop-column : goal.invariant-loop-column
invariant-loop-column l = l.fn.aggs.items ++ map no_agg (map output_of l.columns) ≡ l.aggs.items ++ map no_agg (map output_of (drop l.column-index l.columns))
