use Rattle.mob_literal.proofs.MovingAgain.{truths_again, numbers_again, texts_again}
use Rattle.mob_literal.proofs.laws.steps_read_again.Goals as goal

pub returns : goal.returns
returns c = record { truths = truths_again; numbers = numbers_again; texts = texts_again }
