use Rattle.std.proofs.Common.{rules}
use Rattle.mob_geotext.specs.Polygons.{written_ring_at}
use Rattle.mob_geotext.proofs.polygons.listed_rings_at.Goals as goal

pub returns : goal.returns
returns c = record { read = c.separated_at.ensures.read written_ring_at (λ text found p. search rules) }
