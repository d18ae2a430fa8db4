use Rattle.mob_geotext.proofs.BoxesAgain.{one_box}
use Rattle.mob_geotext.proofs.box_laws.one_box.Goals as goal

pub returns : goal.returns
returns c = record { one = one_box }
