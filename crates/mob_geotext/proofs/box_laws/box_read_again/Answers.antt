use Rattle.mob_geotext.proofs.BoxesAgain.{box_again}
use Rattle.mob_geotext.proofs.box_laws.box_read_again.Goals as goal

pub returns : goal.returns
returns c = record { again = box_again }
