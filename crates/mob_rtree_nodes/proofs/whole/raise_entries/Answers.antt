use Rattle.std.{specs.Prelude.{count_by, sum_by}, proofs.Common.{ap, ◌∙◌, sym, subst, ◌+◌, not, []}, proofs.lemmas.Result.{on_ok_weaker}}
use Rattle.mob_rtree_nodes.{specs.Tree.{Kid, is_fit, entries_sum}, specs.Builds.{IsForest, leaf_sum}, proofs.Builds.{entry_fits, fits_arranged, forest_start, built_same}}
use Rattle.mob_rtree_nodes.proofs.whole.raise_entries.Goals as goal

pub raise-requires-clause-forest : goal.raise-requires-clause-forest
raise-requires-clause-forest c =
    let count = count_by (λ (k : Kid). not (is_fit 0 k)) in
    let fit = ap count c.as_slice.ensures.value ∙ ap count c.in_ok-kids.ensures.kids ∙ entry_fits c.args.entries.now c.requires.whole in
    let near = fits_arranged c.as_slice.result.now c.in_ok-near.near.items c.in_ok-near.ensures.kids fit in
    subst (λ ps. IsForest 0 c.as_slice-2.result.now ps) (sym c.requires.none) (subst (λ kids. IsForest 0 kids []) (sym c.as_slice-2.ensures.value) (forest_start c.in_ok-near.near.items near))

pub returns-clause-entries : goal.returns-clause-entries
returns-clause-entries c =
    on_ok_weaker c.raise.result
    (λ sums. built_same c.args.entries.now c.as_slice-2.result.now c.raise.new.nodes.items
    (λ f. ap (sum_by f) c.as_slice-2.ensures.value ∙ c.in_ok-near.ensures.kids f ∙ ap (sum_by f) c.as_slice.ensures.value ∙ ap (sum_by f) c.in_ok-kids.ensures.kids)
    (λ g. sums g ∙ ap (λ ps. entries_sum g ps + leaf_sum g c.as_slice-2.result.now 0) c.requires.none))
    c.raise.ensures.entries
