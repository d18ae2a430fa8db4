use Rattle.std.{specs.Prelude.{sum_by}, proofs.Common.{ℕ, ap, sym, ◌∙◌, map}, proofs.lemmas.List.Sorted.{sum_by-IsPermutation}, proofs.lemmas.Result.{IfOk-weaker}}
use Rattle.mob_rtree_nodes.{specs.Tree.{Kid}, proofs.Sums.{mapped_sum}}
use Rattle.mob_rtree_nodes.proofs.build.gather_near.Goals as goal

pub returns-clause-kids : goal.returns-clause-kids
returns-clause-kids c =
    let near : ℕ × Kid → Kid = λ p. p.1 in
    let old = c.in_ok-pairs.pairs.items in
    let new = c.sort_unstable_by_key.new.self.items in
    IfOk-weaker c.unkeyed.result _ _
    (λ v e f.
    ap (sum_by f) (e ∙ ap (map near) c.as_slice.ensures.value)
    ∙ mapped_sum f near new
    ∙ sum_by-IsPermutation (λ p. f (near p)) old new c.sort_unstable_by_key.ensures.permutation
    ∙ sym (mapped_sum f near old)
    ∙ ap (sum_by f) c.in_ok-pairs.ensures.kids)
    c.unkeyed.ensures.kids
