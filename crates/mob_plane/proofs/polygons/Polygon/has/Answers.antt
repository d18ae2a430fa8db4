use Rattle.mob_plane.{specs.Rings.{rings_of}, proofs.Counts.{is_inside}}
use Rattle.mob_plane.proofs.polygons.Polygon.has.Goals as goal

pub returns : goal.returns
returns c = record { value = rw (← c.self.view_is) (is_inside (rings_of c.self.inside.rings.items) c.args.p.now c.in_ok-tally.tally _ c.is_in.ensures.value (rw c.as_slice.ensures.value at c.in_ok-tally.ensures.counted)) }
