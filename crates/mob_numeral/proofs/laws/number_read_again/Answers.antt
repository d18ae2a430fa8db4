use Rattle.mob_numeral.proofs.Again.{number_again}
use Rattle.mob_numeral.proofs.laws.number_read_again.Goals as goal

pub returns : goal.returns
returns c = record { again = number_again }
