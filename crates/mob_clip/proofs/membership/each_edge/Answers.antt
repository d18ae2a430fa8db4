use Rattle.std.proofs.Common.{rules, arith, ◌≡◌, ◌++◌, ◌∷◌, [], ◌+◌, drop}
use Rattle.mob_list.proofs.Entries.{drop_read}
use Rattle.mob_clip.proofs.Knowing.{knowing_step, knowing_fit}
use Rattle.mob_clip.proofs.membership.each_edge.Goals as goal

pub loop-edge-preserved : goal.loop-edge-preserved
loop-edge-preserved c =
    let at = c.loop-edge in
    let xs = c.args.edges.now in
    let x = c.edge-item.result in
    let n : c.push.new.self.items ≡ at.out.items ++ c.in_ok-next.next ∷ [] = search rules in
    knowing_step c.args.span.now xs (drop at.edge-index xs) (drop (at.edge-index + 1) xs) x at.out.items c.push.new.self.items c.in_ok-next.next (drop_read xs at.edge-index x (omega arith) c.edge-item.is) n c.in_ok-next.ensures.values c.in_ok-next.ensures.fit at.invariant

pub returns-clause-fit : goal.returns-clause-fit
returns-clause-fit c =
    let at = c.loop-edge in
    knowing_fit c.args.span.now c.args.edges.now (drop at.edge-index c.args.edges.now) at.out.items at.invariant
