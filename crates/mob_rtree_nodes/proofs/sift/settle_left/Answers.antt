use Rattle.std.{specs.Prelude.{count_by}, proofs.Common.{ap, ◌∙◌, not}}
use Rattle.mob_stbox.specs.Boxes.{is_whole}
use Rattle.mob_rtree_nodes.{specs.Tree.{Kid}, proofs.Covers.{fit_whole}}
use Rattle.mob_rtree_nodes.proofs.sift.settle_left.Goals as goal

pub cover_all-part-requires-clause-whole : goal.cover_all-part-requires-clause-whole
cover_all-part-requires-clause-whole c = ap (count_by (λ (k : Kid). not (is_whole k.0))) c.as_slice.ensures.value ∙ fit_whole c.args.part.now.height c.args.left.items c.requires.fit
