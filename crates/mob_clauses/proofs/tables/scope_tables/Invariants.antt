use Rattle.std.proofs.Common.{◌≡◌, ◌++◌, drop, map}
use Rattle.mob_scope.specs.Scopes.{sources_of}
use Rattle.mob_clauses.proofs.tables.scope_tables.Given as goal

abbrev pub invariant-loop-source : goal.invariant-loop-source
invariant-loop-source l = record {
  numbers : map (λ t. t.1.table) (sources_of l.sources) ≡ l.numbers ++ map (λ t. t.1.table) (sources_of (drop l.source-index l.sources));
  names : map (λ t. t.0) (sources_of l.sources) ≡ l.names ++ map (λ t. t.0) (sources_of (drop l.source-index l.sources));
}
