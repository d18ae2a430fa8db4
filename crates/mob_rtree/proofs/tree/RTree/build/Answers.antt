use Rattle.std.proofs.Common.{sym, subst, arith}
use Rattle.mob_rtree_nodes.{specs.Tree.{IsFree}, proofs.Frees.{free_none}}
use Rattle.mob_rtree.proofs.tree.RTree.build.Goals as goal

pub invariant_of-result : goal.invariant_of-result
invariant_of-result c =
    let ps = c.raise_entries.new.nodes.items in (
      λ some. c.in_ok-root.ensures.tree,
      subst (λ l. IsFree l ps) (sym c.in_ok-free.ensures.items) (free_none ps c.in_ok-root.ensures.live),
      c.in_ok-root.ensures.few,
      omega (arith, c.in_ok-free.ensures.exact, c.len.ensures, c.raise_entries.new.nodes.ok.0),
      λ spare. absurd (omega (arith, spare)),
    )
