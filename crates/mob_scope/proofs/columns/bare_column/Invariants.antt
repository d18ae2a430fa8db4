use Rattle.std.proofs.Common.{◌≡◌, drop}
use Rattle.mob_scope.{specs.Scopes.{sources_of}, specs.Columns.{matches}, proofs.Matches.{listed}}
use Rattle.mob_scope.proofs.columns.bare_column.Given as goal

abbrev pub invariant-loop-index : goal.invariant-loop-index
invariant-loop-index l = matches 0 (sources_of l.from) l.name.text ≡ listed l.one (matches l.index (sources_of (drop l.index l.from)) l.name.text)
