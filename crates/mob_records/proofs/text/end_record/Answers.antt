use Rattle.mob_records.{proofs.Within.{all_written}, proofs.text.end_record.Goals.{in-Ok, in-Err}}
use Rattle.mob_records.proofs.text.end_record.Goals as goal

pub returns-clause-text : goal.returns-clause-text
returns-clause-text c = elim c.match-end_record.branch [
  | in-Ok w ↦ rw w.result-is (λ before fields so_far. all_written before fields c.args.writer.now c.end_record.new.self so_far w.in-Ok.ensures.bytes)
  | in-Err w ↦ rw w.result-is tt
]
