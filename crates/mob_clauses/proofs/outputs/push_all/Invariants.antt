use Rattle.std.proofs.Common.{◌≡◌, ◌++◌, drop, map}
use Rattle.mob_scope.specs.Scopes.{sources_of}
use Rattle.mob_clauses.specs.Outputs.{all_outputs}
use Rattle.mob_typed.specs.Selects.{output_of}
use Rattle.mob_clauses.proofs.outputs.push_all.Given as goal

abbrev pub invariant-loop-index : goal.invariant-loop-index
invariant-loop-index l = map output_of l.fn.columns.items ++ all_outputs 0 (sources_of l.from) l.place ≡ map output_of l.columns.items ++ all_outputs l.index (sources_of (drop l.index l.from)) l.place
