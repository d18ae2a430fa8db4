use Rattle.std.proofs.Common.{◌++◌, [], refl, sym, subst, arith, map}
use Rattle.mob_typed.specs.Trees.{typed_of, typed_trees}
use Rattle.mob_eval.{specs.Remembered.{AreNodes, nodes_at, all_nodes_at, root_seen}, proofs.Choosing.{next_nodes, last_nodes}}
use Rattle.mob_eval.proofs.memory.chosen.nodes_of_all.Goals as goal

pub loop-root-init : goal.loop-root-init
loop-root-init c = ([], refl, refl)

pub loop-root-preserved : goal.loop-root-preserved
loop-root-preserved c =
    let at = c.args.at in
    let roots = c.args.roots.now in
    let (ys, found, is) = c.loop-root.invariant in
    let e = c.root-item.result in
    let more = nodes_at at (typed_of e.now) in (
      ys ++ more,
      c.both-found.ensures.both ys more found c.nodes_of.ensures.nodes,
      next_nodes root_seen at (all_nodes_at at (typed_trees (map root_seen roots))) ys roots c.loop-root.root-index e (omega arith) c.root-item.is is,
    )

pub returns : goal.returns
returns c =
    let at = c.args.at in
    let roots = c.args.roots.now in
    let (ys, found, is) = c.loop-root.invariant in
    record { nodes = subst (AreNodes c.loop-root.found) (sym (last_nodes root_seen at (all_nodes_at at (typed_trees (map root_seen roots))) ys roots c.loop-root.root-index (omega arith) is)) found }
