use Rattle.std.{specs.Prelude.{count_by}, proofs.Common.{◌∙◌, ap, not}}
use Rattle.mob_rtree_nodes.{specs.Tree.{Kid, is_fit}, proofs.Sums.{sound_at}, proofs.Sifts.{after_fit, read_left, sifted_at}}
use Rattle.mob_rtree_nodes.proofs.sift.sift_node.Goals as goal

pub settle_left-requires-clause-fit : goal.settle_left-requires-clause-fit
settle_left-requires-clause-fit c =
    let old = c.args.nodes.now.items in
    let p = c.index_mut-part.result.now in
    let is = c.index_mut-part.ensures.value in
    let left = read_left c.args.ids.now old c.deref.result.now c.args.node p c.index-before.result.now c.kids_after-left.result.items c.requires.there c.deref.ensures.value is c.index-before.ensures c.kids_after-left.ensures.left in
    ap (count_by (λ (k : Kid). not (is_fit p.height k))) left ∙ after_fit c.args.ids.now old c.requires.sound p.height p.kids.items (sound_at old c.args.node p c.requires.there is c.requires.sound).fit

pub returns-clause-sifted : goal.returns-clause-sifted
returns-clause-sifted c =
    let old = c.args.nodes.now.items in
    let p = c.index_mut-part.result.now in
    let is = c.index_mut-part.ensures.value in
    let left = read_left c.args.ids.now old c.deref.result.now c.args.node p c.index-before.result.now c.kids_after-left.result.items c.requires.there c.deref.ensures.value is c.index-before.ensures c.kids_after-left.ensures.left in
    sifted_at c.args.ids.now old c.args.node p c.settle_left.new.part c.requires.there is c.settle_left.ensures.height c.settle_left.ensures.sound (c.settle_left.ensures.kids ∙ left)
