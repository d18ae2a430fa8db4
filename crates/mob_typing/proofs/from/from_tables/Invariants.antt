use Rattle.std.proofs.Common.{◌≡◌, [], drop, map}
use Rattle.mob_ast.specs.Trees.{from_of}
use Rattle.mob_scope.specs.Scopes.{sources_of}
use Rattle.mob_typing.specs.Selects.{from_tables}
use Rattle.mob_typing.proofs.from.from_tables.Given as goal

abbrev pub invariant-loop-entry : goal.invariant-loop-entry
invariant-loop-entry l = from_tables l.names.tables [] (map from_of l.from) ≡ from_tables l.names.tables (sources_of l.sources.items) (map from_of (drop l.entry-index l.from))
