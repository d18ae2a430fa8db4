use Rattle.std.proofs.Common.{◌+◌, drop, arith}
use Rattle.mob_plane.{specs.Rings.{edges, all_edges, rings_of}, proofs.Counts.{counting_ring, counting_ring_fails, rings_read}}
use Rattle.mob_plane.proofs.polygons.count_rings.Goals as goal

pub loop-ring-preserved : goal.loop-ring-preserved
loop-ring-preserved c =
    let at = c.loop-ring in
    let h = rw c.as_slice.ensures.value at c.in-Ok.ensures.counted in
    counting_ring _ _ _ (edges c.ring-item.result.items) (all_edges (rings_of (drop (at.ring-index + 1) c.args.rings.now))) _ _ _
    (rings_read c.args.rings.now at.ring-index c.ring-item.result (omega arith) c.ring-item.is) h.0 h.1 at.invariant

pub returns-in-Err : goal.returns-in-Err
returns-in-Err c =
    let at = c.loop-ring in
    let h = rw c.as_slice.ensures.value at c.in-Err.ensures.counted in
    record {
      counted = counting_ring_fails _ _ _ (edges c.ring-item.result.items) (all_edges (rings_of (drop (at.ring-index + 1) c.args.rings.now))) _ _
          (rings_read c.args.rings.now at.ring-index c.ring-item.result (omega arith) c.ring-item.is) h at.invariant;
    }
