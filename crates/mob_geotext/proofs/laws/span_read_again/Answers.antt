use Rattle.mob_geotext.proofs.SpansAgain.{span_again}
use Rattle.mob_geotext.proofs.laws.span_read_again.Goals as goal

pub returns : goal.returns
returns c = record { again = span_again }
