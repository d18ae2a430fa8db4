use Rattle.std.proofs.Common.{◌≡◌, List, drop, length}
use Rattle.mob_catalog.{specs.RecordsLeft.{IsReading, Reads}, specs.TableFile.{Field, HasHeader}, proofs.Reading.{Walked}}
use Rattle.mob_catalog.proofs.table_file.rows_below.Given as goal

abbrev pub invariant-loop-before : goal.invariant-loop-before
invariant-loop-before l = record {
  reads : Reads l.reader;
  count : length l.rows ≡ l.before;
  walked : (records : List (List Field)) → IsReading l.fn.reader records → HasHeader l.columns records × Walked l.columns l.epoch (drop 1 records) l.before l.rows l.reader;
}
