use Rattle.mob_shell.proofs.SameAnswers.{answer_the_same, delete_the_same, keep_the_same}
use Rattle.mob_shell.proofs.laws.answers_know_no_index.Goals as goal

pub returns : goal.returns
returns c = record { kept = keep_the_same; rows = answer_the_same c.one_answer.ensures.outcome; deleted = delete_the_same keep_the_same }
