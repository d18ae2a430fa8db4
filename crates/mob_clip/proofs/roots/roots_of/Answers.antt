use Rattle.std.{specs.List.{flat_map}, proofs.Common.{arith, ◌+◌, drop, refl}, proofs.Math.ListN.{drop_of_length-le}}
use Rattle.mob_list.proofs.Entries.{drop_read}
use Rattle.mob_clip.{specs.Roots.{edge_roots}, proofs.Listing.{walk_step, walk_end}}
use Rattle.mob_clip.proofs.roots.roots_of.Goals as goal

pub loop-edge-preserved : goal.loop-edge-preserved
loop-edge-preserved c =
    let at = c.loop-edge in
    let xs = c.args.edges.now in
    let x = c.edge-item.result in
    walk_step (flat_map edge_roots) (drop at.edge-index xs) (drop (at.edge-index + 1) xs) x (edge_roots x) at.out.items c.push_roots.new.out.items _ (drop_read xs at.edge-index x (omega arith) c.edge-item.is) refl c.in_ok-push_roots.ensures.pushed at.invariant

pub returns : goal.returns
returns c =
    let at = c.loop-edge in
    let xs = c.args.edges.now in
    record { roots = walk_end (flat_map edge_roots) (drop at.edge-index xs) at.out.items _ (drop_of_length-le xs c.loop-edge-test.false) refl at.invariant }
