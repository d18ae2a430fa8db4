use Rattle.std.proofs.Common.{rules}
use Rattle.mob_plane.proofs.RingTests.{some_ring}
use Rattle.mob_plane.proofs.polygons.has_short.Goals as goal

pub returns-else-is_empty : goal.returns-else-is_empty
returns-else-is_empty c = record { value = some_ring c.args.rings.now _ (search rules) c.some_short.ensures.value }
