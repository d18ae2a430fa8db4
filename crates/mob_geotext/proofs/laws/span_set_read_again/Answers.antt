use Rattle.mob_geotext.proofs.SpansAgain.{span_set_again}
use Rattle.mob_geotext.proofs.laws.span_set_read_again.Goals as goal

pub returns : goal.returns
returns c = record { again = span_set_again }
