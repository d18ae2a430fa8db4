use Rattle.std.{specs.Io.KnownBytes.{Appends}, specs.List.{concat}, proofs.Common.{◌≤◌, map, take}}
use Rattle.mob_ending.specs.Lines.{further_row}
use Rattle.mob_ending.proofs.pieces.put_further_rows.Given as goal

abbrev pub invariant-loop-row : goal.invariant-loop-row
invariant-loop-row g l = record {
  put : Appends (g.E.Sink.held l.fn.notes) (g.E.Sink.held l.notes) (concat (map further_row (take l.row-index l.rows)));
  later : g.E.Sink.faults l.fn.notes ≤ g.E.Sink.faults l.notes;
}
