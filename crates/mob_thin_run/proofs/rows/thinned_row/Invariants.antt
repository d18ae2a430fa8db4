use Rattle.std.{specs.List.{AllZip}, proofs.Common.{take}}
use Rattle.mob_thin_run.specs.ThinRows.{IsThinValue, RowTestsFit}
use Rattle.mob_thin_run.proofs.rows.thinned_row.Given as goal

abbrev pub invariant-loop-value : goal.invariant-loop-value
invariant-loop-value l = record {
  made : AllZip (IsThinValue l.d) (take l.value-index l.row) l.thin;
  fit : RowTestsFit l.mode l.d (take l.value-index l.row);
}
