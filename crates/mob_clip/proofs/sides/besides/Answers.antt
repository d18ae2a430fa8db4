use Rattle.std.{proofs.Common.{arith, ap, ◌+◌, drop, refl}, proofs.Math.ListN.{drop_of_length-le}}
use Rattle.mob_list.proofs.Entries.{drop_read}
use Rattle.mob_slice.proofs.Cuts.{all_second}
use Rattle.mob_clip.{specs.declared.sides.BesideEdge.{BesideEdge}, specs.Sides.{beside, beside_parts, point_parts}, proofs.Listing.{checking_fails, mapping_step, mapping_end}}
use Rattle.mob_clip.proofs.sides.besides.Goals as goal

pub loop-edge-preserved : goal.loop-edge-preserved
loop-edge-preserved c =
    let at = c.loop-edge in
    let xs = c.args.edges.now in
    let p = c.args.p.now in
    let q = c.args.q.now in
    let x = c.edge-item.result in
    let v = c.in-Ok.ensures.value in
    record {
      listed = mapping_step (beside p q) (beside_parts p q) xs (drop at.edge-index xs) (drop (at.edge-index + 1) xs) at.out.items c.push.new.self.items x c.in-Ok.next (drop_read xs at.edge-index x (omega arith) c.edge-item.is) c.in_ok-push.ensures.items v.0 v.1 at.invariant.listed;
      known = (ap (λ (b : BesideEdge). b.to_b) v.0, all_second (point_parts p q x.0) (point_parts p q x.1) v.1);
    }

pub returns-in-Err : goal.returns-in-Err
returns-in-Err c =
    let at = c.loop-edge in
    let xs = c.args.edges.now in
    let x = c.edge-item.result in
    record { made = (refl, checking_fails (beside_parts c.args.p.now c.args.q.now) xs (drop at.edge-index xs) (drop (at.edge-index + 1) xs) x (drop_read xs at.edge-index x (omega arith) c.edge-item.is) c.in-Err.ensures.value at.invariant.listed.checked) }

pub returns : goal.returns
returns c =
    let at = c.loop-edge in
    let xs = c.args.edges.now in
    record { made = mapping_end (beside c.args.p.now c.args.q.now) (beside_parts c.args.p.now c.args.q.now) xs (drop at.edge-index xs) at.out.items (drop_of_length-le xs c.loop-edge-test.false) at.invariant.listed }
