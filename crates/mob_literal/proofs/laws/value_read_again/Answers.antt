use Rattle.mob_literal.proofs.SqlAgain.{value_again}
use Rattle.mob_literal.proofs.laws.value_read_again.Goals as goal

pub returns : goal.returns
returns c = record { again = value_again }
