use Rattle.std.{specs.Prelude.{slice_index_or}, specs.List.{cons_option, filter_map}, proofs.Common.{◌∙◌, ◌++◌, [], ap, sym, arith, take, List, ◌<◌, length}}
use Rattle.mob_rtree_nodes.{specs.Tree.{Kid}, specs.Sifts.{left_kid}, proofs.Sifts.{left_more}}
use Rattle.mob_rtree_nodes.proofs.sift.kids_after.Goals as goal

pub loop-kid-preserved : goal.loop-kid-preserved
loop-kid-preserved c =
    let f = left_kid c.args.ids.now c.args.nodes.now c.args.part.now.height in
    let kids = c.args.part.now.kids.items in
    let i = c.loop-kid.kid-index in
    let k = c.kid-item.result in
    let same = c.as_slice-kid-items.ensures.value in
    let lt : i < length kids = omega (arith, c.loop-kid-test.true, ap (λ (l : List Kid). length l) same) in
    let at = c.kid-item.is ∙ ap (λ (l : List Kid). slice_index_or l i k) same in
    let items = c.push_left.ensures.items ∙ ap (λ (l : List Kid). l ++ cons_option c.kid_after-after.result []) c.loop-kid.invariant.0 ∙ ap (λ o. filter_map f (take i kids) ++ cons_option o []) c.kid_after-after.ensures.left in
    let long = c.loop-kid.invariant.1 in
    let more = c.push_left.ensures.len in
    (items ∙ sym (left_more f kids i k lt at), omega (arith, long, more))
