use Rattle.mob_numeral.proofs.Again.{whole_again}
use Rattle.mob_numeral.proofs.laws.whole_read_again.Goals as goal

pub returns : goal.returns
returns c = record { again = whole_again }
