use Rattle.std.proofs.Common.{rules, ◌≡◌, ◌+◌, ◌-◌, arith}
use Rattle.mob_plane.proofs.Counts.{counting_step, counting_ends, edges_read, edges_end}
use Rattle.mob_plane.proofs.edges.count_ring.Goals as goal

pub loop-i-preserved : goal.loop-i-preserved
loop-i-preserved c =
    let at = c.loop-i in
    let n : at.i + 1 - 1 ≡ at.i = omega arith in
    record {
      start = omega arith;
      counting = rw n (counting_step _ _ _ _ _ _ _ _ _ (edges_read c.args.ring.now at.i c.index-ring-i.result c.index-ring-i-in-loop-i.result at.invariant.start (omega arith) c.index-ring-i.is c.index-ring-i-in-loop-i.is) (search rules) c.in_ok-signs.ensures.signs.1 at.invariant.counting);
    }

pub returns : goal.returns
returns c = record { counted = counting_ends _ _ _ _ _ (edges_end c.args.ring.now c.loop-i.i c.loop-i.invariant.start (omega arith)) c.loop-i.invariant.counting }
