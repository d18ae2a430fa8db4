use Rattle.std.proofs.Common.{take, Some}
use Rattle.csv.specs.Writing.{text_written}
use Rattle.mob_records.specs.Writers.{IsWithinRecord}
use Rattle.mob_records.proofs.text.print_record.Given as goal

abbrev pub invariant-loop-number : goal.invariant-loop-number
invariant-loop-number g l = IsWithinRecord (text_written (λ w. Some w.items) l.fn.writer) (take l.number (g.P.FieldPrinter.fields l.printer l.row)) l.writer
