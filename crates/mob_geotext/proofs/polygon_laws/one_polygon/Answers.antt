use Rattle.mob_geotext.proofs.OneReadings.{one_polygon}
use Rattle.mob_geotext.proofs.polygon_laws.one_polygon.Goals as goal

pub returns : goal.returns
returns c = record { one = one_polygon }
