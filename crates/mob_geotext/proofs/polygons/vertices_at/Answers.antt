use Rattle.std.proofs.Common.{rules}
use Rattle.mob_geotext.specs.Polygons.{vertex_at}
use Rattle.mob_geotext.proofs.polygons.vertices_at.Goals as goal

pub returns : goal.returns
returns c = record { read = c.separated_at.ensures.read vertex_at (λ text found p. search rules) }
