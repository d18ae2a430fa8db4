use Rattle.std.{specs.Prelude.{sum_by}, proofs.Common.{arith, refl, sym, ◌∙◌, ap, Some, None, List, length}}
use Rattle.mob_rtree_nodes.{specs.Tree.{Kid, is_fit, kids_of_more}, proofs.Sums.{kids_of, height_of}, proofs.Frees.{free_set, reused_set, reused_trans}}
use Rattle.mob_rtree_nodes.proofs.insert.place.Goals as goal

pub add-more-requires-clause-fit : goal.add-more-requires-clause-fit
add-more-requires-clause-fit c = ap (λ h. is_fit h c.args.kid) (sym (height_of c.args.nodes.now.items c.args.node c.index_mut-part.result.now c.requires.there c.index_mut-part.ensures.value)) ∙ c.requires.fit

pub put_node-number-requires-clause-free : goal.put_node-number-requires-clause-free
put_node-number-requires-clause-free c =
    let old = c.args.nodes.now.items in
    let p = c.index_mut-part.result.now in
    let n = c.args.node in
    let is = c.index_mut-part.ensures.value in
    let l = c.requires.live in
    free_set c.args.free.now.items old n p c.add-more.new.part c.requires.there is (omega (arith, l, ap (λ (l : List Kid). length l) (kids_of old n p c.requires.there is))) c.add-more.ensures.live c.requires.free

pub returns-in-None-clause-free : goal.returns-in-None-clause-free
returns-in-None-clause-free c =
    let old = c.args.nodes.now.items in
    let p = c.index_mut-part.result.now in
    let n = c.args.node in
    let is = c.index_mut-part.ensures.value in
    let l = c.requires.live in
    free_set c.args.free.now.items old n p c.add-more.new.part c.requires.there is (omega (arith, l, ap (λ (l : List Kid). length l) (kids_of old n p c.requires.there is))) c.add-more.ensures.live c.requires.free

pub returns-in-None-clause-reused : goal.returns-in-None-clause-reused
returns-in-None-clause-reused c = reused_set c.args.nodes.now.items c.args.node c.add-more.new.part c.add-more.ensures.live

pub returns-in-Some-clause-reused : goal.returns-in-Some-clause-reused
returns-in-Some-clause-reused c = reused_trans c.args.nodes.now.items _ c.put_node-number.new.nodes.items (reused_set c.args.nodes.now.items c.args.node c.add-more.new.part c.add-more.ensures.live) c.put_node-number.ensures.reused

pub returns-in-None-clause-attached : goal.returns-in-None-clause-attached
returns-in-None-clause-attached c =
    let a = c.index_mut-part.ensures.value in
    let kids = ap (λ m. kids_of_more m) c.in-None.is in
    record {
      part = c.add-more.new.part;
      more = None;
      number = 0;
      nodes = refl;
      height = c.add-more.ensures.height ∙ sym (height_of c.args.nodes.now.items c.args.node c.index_mut-part.result.now c.requires.there a);
      area = refl;
      sound = c.add-more.ensures.sound;
      live = c.add-more.ensures.live;
      kids = λ f. omega (arith, c.add-more.ensures.kids f, ap (sum_by f) kids, ap (sum_by f) (kids_of c.args.nodes.now.items c.args.node c.index_mut-part.result.now c.requires.there a));
      other = refl;
    }

pub returns-in-Some-clause-attached : goal.returns-in-Some-clause-attached
returns-in-Some-clause-attached c =
    let a = c.index_mut-part.ensures.value in
    let kids = ap (λ m. kids_of_more m) c.in-Some.is in
    let height = height_of c.args.nodes.now.items c.args.node c.index_mut-part.result.now c.requires.there a in
    record {
      part = c.add-more.new.part;
      more = Some c.in-Some.other;
      number = c.put_node-number.result;
      nodes = c.put_node-number.ensures.put;
      height = c.add-more.ensures.height ∙ sym height;
      area = refl;
      sound = c.add-more.ensures.sound;
      live = c.add-more.ensures.live;
      kids = λ f. omega (arith, c.add-more.ensures.kids f, ap (sum_by f) kids, ap (sum_by f) (kids_of c.args.nodes.now.items c.args.node c.index_mut-part.result.now c.requires.there a));
      other = (c.in-Some.ensures.more.0 ∙ sym height, c.in-Some.ensures.more.1, c.in-Some.ensures.more.2, refl);
    }
