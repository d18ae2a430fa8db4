use Rattle.std.{specs.List.{concat}, proofs.Common.{◌≡◌, ◌∷◌, map, take, Some}}
use Rattle.csv.specs.Writing.{text_written}
use Rattle.mob_records.{specs.AnswerText.{record_line}, specs.Writers.{IsBetweenRecords}}
use Rattle.mob_records.proofs.text.records_text.Given as goal

abbrev pub invariant-loop-row : goal.invariant-loop-row
invariant-loop-row l = record {
  text : text_written (λ w. Some w.items) l.writer ≡ Some (concat (map record_line (l.fn.names ∷ take l.row-index l.rows)));
  between : IsBetweenRecords l.writer;
}
