use Rattle.std.proofs.Common.{rules, arith}
use Rattle.mob_geotext.proofs.PolygonsRead.{too_many}
use Rattle.mob_geotext.proofs.polygons.has_many_points.Goals as goal

pub returns-then-len-left : goal.returns-then-len-left
returns-then-len-left c = record { value = too_many c.args.rings.now c.loop-ring.ring-index c.loop-ring.left c.ring-item.result (omega arith) c.ring-item.is c.loop-ring.invariant (search rules) }
