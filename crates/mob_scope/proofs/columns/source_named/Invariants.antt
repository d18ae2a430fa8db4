use Rattle.std.proofs.Common.{◌≡◌, drop}
use Rattle.mob_scope.{specs.Scopes.{sources_of}, specs.Names.{entry_from}}
use Rattle.mob_scope.proofs.columns.source_named.Given as goal

abbrev pub invariant-loop-index : goal.invariant-loop-index
invariant-loop-index l = entry_from 0 (sources_of l.from) l.name ≡ entry_from l.index (sources_of (drop l.index l.from)) l.name
