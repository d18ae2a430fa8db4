use Rattle.mob_geotext.proofs.SpansRead.{made_span}
use Rattle.mob_geotext.proofs.noted.bounded.Goals as goal

pub returns : goal.returns
returns c = record { value = made_span c.new.result _ c.new.ensures.ends c.new.ensures.test }
