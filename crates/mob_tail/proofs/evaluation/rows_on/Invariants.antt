use Rattle.std.proofs.Common.{Ok, map, take}
use Rattle.mob_typed.specs.Selects.{select_seen}
use Rattle.mob_tail.{specs.IsMadeOfEach.{IsMadeOfEach}, specs.Answers.{IsTupleRow}, specs.AnswerRows.{answer_row}}
use Rattle.mob_tail.proofs.evaluation.rows_on.Given as goal

abbrev pub invariant-loop-tuple : goal.invariant-loop-tuple
invariant-loop-tuple g l = IsMadeOfEach (IsTupleRow (select_seen l.select) l.store l.terms) (take l.tuple-index l.kept) (Ok (map (answer_row (select_seen l.select) l.terms.epoch) l.rows.items))
