use Rattle.std.{specs.List.{list_any}, proofs.Common.{◌≡◌, drop}}
use Rattle.mob_clauses.specs.Outputs.{is_same_column}
use Rattle.mob_clauses.proofs.groups.has_column.Given as goal

abbrev pub invariant-loop-other : goal.invariant-loop-other
invariant-loop-other l = list_any (is_same_column l.column) l.columns ≡ list_any (is_same_column l.column) (drop l.other-index l.columns)
