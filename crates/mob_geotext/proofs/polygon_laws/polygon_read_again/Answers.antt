use Rattle.mob_geotext.proofs.PolygonsAgain.{polygon_again}
use Rattle.mob_geotext.proofs.polygon_laws.polygon_read_again.Goals as goal

pub returns : goal.returns
returns c = record { again = polygon_again }
