use Rattle.std.proofs.Common.{◌==◌, ◌++◌, ◌∙◌, sym, ap, subst, arith}
use Rattle.mob_typed.specs.Trees.{typed_of}
use Rattle.mob_eval.{specs.SoFar.{trees}, specs.Remembered.{AreNodes, nodes_at, nodes_here, all_nodes_at, place_of}, proofs.Choosing.{nodes_are, next_nodes, last_nodes}}
use Rattle.mob_eval.proofs.memory.chosen.+nodes_of.Goals as goal

pub loop-arg-init : goal.loop-arg-init
loop-arg-init t c =
    let e = c.args.e.now in
    let here = nodes_here (place_of (typed_of e) == c.args.at) (typed_of e) in
    (here, c.node_here-found.ensures.nodes, nodes_are c.args.at e ∙ ap (λ xs. here ++ all_nodes_at c.args.at (trees xs)) (sym c.deref-arg-items.ensures.value))

pub loop-arg-preserved : goal.loop-arg-preserved
loop-arg-preserved t c =
    let at = c.args.at in
    let (ys, found, is) = c.loop-arg.invariant in
    let x = c.arg-item.result in (
      ys ++ nodes_at at (typed_of x),
      c.both-found.ensures.both ys (nodes_at at (typed_of x)) found c.nodes_of.ensures.nodes,
      next_nodes typed_of at (nodes_at at (typed_of c.args.e.now)) ys c.deref-arg-items.result.now c.loop-arg.arg-index x (omega arith) c.arg-item.is is,
    )

pub returns : goal.returns
returns t c =
    let at = c.args.at in
    let (ys, found, is) = c.loop-arg.invariant in
    record { nodes = subst (AreNodes c.loop-arg.found) (sym (last_nodes typed_of at (nodes_at at (typed_of c.args.e.now)) ys c.deref-arg-items.result.now c.loop-arg.arg-index (omega arith) is)) found }
