use Rattle.std.proofs.Common.{drop, arith, ◌-◌}
use Rattle.mob_plane.{specs.Rings.{edges}, proofs.Counts.{edges_end}}
use Rattle.mob_clip.proofs.Listing.{all_made}
use Rattle.mob_clip.proofs.edges.push_edges.Goals as goal

pub returns : goal.returns
returns c =
    let at = c.loop-i in
    let xs = c.args.ring.now in
    record { pushed = all_made at.out.items (edges (drop (at.i - 1) xs)) _ (edges_end xs at.i at.invariant.begun (omega arith)) at.invariant.made }
