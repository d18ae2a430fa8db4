use Rattle.std.proofs.Common.{take, Some}
use Rattle.csv.specs.Writing.{text_written}
use Rattle.mob_records.specs.Writers.{IsWithinRecord}
use Rattle.mob_records.proofs.text.write_record.Given as goal

abbrev pub invariant-loop-field : goal.invariant-loop-field
invariant-loop-field l = IsWithinRecord (text_written (λ w. Some w.items) l.fn.writer) (take l.field-index l.fields) l.writer
