use Rattle.std.{specs.Prelude.{OnOk, IsSorted}, specs.Ordering.{nat_cmp}, proofs.Common.{◌≡◌, ℕ, List, ◌++◌, ◌∙◌, ap, subst}}
use Rattle.mob_rtree.specs.Shape.{Shape}
use Rattle.mob_rtree_nodes.specs.Tree.{entries_list, AreFound}
use Rattle.mob_rtree.proofs.tree.RTree.search.Goals as goal

pub returns-clause-found : goal.returns-clause-found
returns-clause-found g c =
    let e = ap (λ l. entries_list l) c.deref.ensures.value ∙ ap (λ (s : Shape). s.entries) c.self.view_is in
    subst (λ es. OnOk c.gather.result ((more : List ℕ) × (c.gather.new.into.items ≡ c.args.into.now.items ++ more) × IsSorted nat_cmp more × AreFound c.args.q.now es more)) e c.gather.ensures.found
