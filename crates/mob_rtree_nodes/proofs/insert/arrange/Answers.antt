use Rattle.std.{specs.Prelude.{IsPermutation}, proofs.Common.{refl, subst}}
use Rattle.mob_rtree_nodes.proofs.Covers.{sum_arranged}
use Rattle.mob_rtree_nodes.proofs.insert.arrange.Goals as goal

pub returns-clause-kids : goal.returns-clause-kids
returns-clause-kids c f = sum_arranged f _ c.args.kids.now.items c.sort_unstable_by_key.new.self refl (subst (λ xs. IsPermutation xs c.sort_unstable_by_key.new.self) c.as_mut_slice.ensures.value c.sort_unstable_by_key.ensures.permutation)
