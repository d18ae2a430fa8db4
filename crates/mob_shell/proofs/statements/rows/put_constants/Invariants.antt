use Rattle.std.proofs.Common.{◌≡◌, drop, map}
use Rattle.mob_catalog.specs.Catalogue.{with_all_rows}
use Rattle.mob_shell.specs.Runs.{inserted_row}
use Rattle.mob_shell.proofs.statements.rows.put_constants.Given as goal

abbrev pub invariant-loop-row : goal.invariant-loop-row
invariant-loop-row l = record {
  consts : l.catalog.store.consts ≡ l.fn.catalog.store.consts;
  rest : with_all_rows l.table (map (inserted_row l.fn.catalog.store.consts) (drop l.row-index l.rows)) l.catalog ≡ with_all_rows l.table (map (inserted_row l.fn.catalog.store.consts) l.rows) l.fn.catalog;
}
