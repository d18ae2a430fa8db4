use Rattle.mob_typed.specs.Selects.{select_seen}
use Rattle.mob_tail.specs.Recalling.{answer_recollection}
use Rattle.mob_tail.proofs.answers.plain_answer.Given as goal

abbrev pub ghosts-answer_with : goal.ghosts-answer_with
ghosts-answer_with a = record { recollection = answer_recollection (select_seen a.select.now) a.store.now a.terms.now }
