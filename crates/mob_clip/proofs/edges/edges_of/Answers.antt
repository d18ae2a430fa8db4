use Rattle.std.{specs.Prelude.{◌++◌}, proofs.Common.{arith, ◌+◌, ◌∙◌, ap, drop, refl}, proofs.Math.ListN.{drop_of_length-le}}
use Rattle.mob_list.proofs.Entries.{drop_read}
use Rattle.mob_plane.specs.Rings.{rings_of, edges, all_edges}
use Rattle.mob_clip.proofs.Listing.{walk_step, walk_end}
use Rattle.mob_clip.proofs.edges.edges_of.Goals as goal

pub loop-ring-preserved : goal.loop-ring-preserved
loop-ring-preserved c =
    let at = c.loop-ring in
    let xs = c.args.rings.now in
    let x = c.ring-item.result in
    walk_step (λ r. all_edges (rings_of r)) (drop at.ring-index xs) (drop (at.ring-index + 1) xs) x (edges x.items) at.out.items c.push_edges.new.out.items _ (drop_read xs at.ring-index x (omega arith) c.ring-item.is) refl (c.in_ok-push_edges.ensures.pushed ∙ ap (λ z. at.out.items ++ edges z) c.as_slice.ensures.value) at.invariant

pub returns : goal.returns
returns c =
    let at = c.loop-ring in
    let xs = c.args.rings.now in
    record { edges = walk_end (λ r. all_edges (rings_of r)) (drop at.ring-index xs) at.out.items _ (drop_of_length-le xs c.loop-ring-test.false) refl at.invariant }
