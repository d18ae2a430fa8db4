use Rattle.std.{specs.List.{AllZip, AllByRecursion}, proofs.Common.{◌-◌, ◌≤◌, length, take}}
use Rattle.mob_thin_run.specs.ThinRows.{IsThinRecord, RowTestsFit}
use Rattle.mob_thin_run.proofs.rows.thin_records.Given as goal

abbrev pub invariant-loop-row : goal.invariant-loop-row
invariant-loop-row l = record {
  within : l.number ≤ length l.rows;
  made : AllZip (IsThinRecord l.d l.epoch) (take l.number l.rows) l.records;
  fit : AllByRecursion (RowTestsFit l.mode l.d) (take l.number l.rows);
}

abbrev pub decreases-loop-row : goal.decreases-loop-row
decreases-loop-row l = length l.rows - l.number
