use Rattle.std.{specs.Prelude.{count_by}, proofs.Common.{arith, ap, sym, ◌∙◌, subst, List, length, get_or, set, ◌<◌}}
use Rattle.mob_stbox.specs.Boxes.{contains}
use Rattle.mob_rtree_nodes.{specs.Tree.{Kid, EntryOf}, specs.Removes.{is_entry, IsRemoved}, proofs.Sums.{kids_of, height_of}}
use Rattle.mob_rtree_nodes.proofs.Shrinks.{at_place, leaf_missing, shrunk_leaf, told_removed, held_is}
use Rattle.mob_rtree_nodes.proofs.remove.remove_entry.Goals as goal

pub settle_at-requires-clause-slot : goal.settle_at-requires-clause-slot
settle_at-requires-clause-slot c = omega (arith, c.in-Some.ensures.there, ap (λ (l : List Kid). length l) c.as_slice.ensures.value, ap (λ (l : List Kid). length l) (kids_of c.args.nodes.now.items c.args.node c.index-part.result.now c.requires.there c.index-part.ensures))

pub returns-in-None-clause-removed : goal.returns-in-None-clause-removed
returns-in-None-clause-removed c = leaf_missing (λ a. contains a c.args.b.now) (c.args.b.now, c.args.id) c.args.nodes.now.items c.args.node c.index-part.result.now c.requires.there c.index-part.ensures c.requires.leaf (ap (count_by (is_entry c.args.b.now c.args.id)) (sym c.as_slice.ensures.value) ∙ c.in-None.ensures.none)

pub returns-in-Some-clause-removed : goal.returns-in-Some-clause-removed
returns-in-Some-clause-removed c =
    let old = c.args.nodes.now.items in
    let p = c.index-part.result.now in
    let n = c.args.node in
    let i = c.in-Some.slot in
    let e : EntryOf = (c.args.b.now, c.args.id) in
    let same = c.as_slice.ensures.value in
    let within : i < length p.kids.items = omega (arith, c.in-Some.ensures.there, ap (λ (l : List Kid). length l) same) in
    let k = at_place p.kids.items i within in
    let h = c.in-Some.ensures.entry k.0 (k.1 ∙ ap (λ l. get_or l i k.0) (sym same)) in
    let s = c.settle_at.ensures.settled in
    let st = s.settled p c.index-part.ensures in
    let leaf = sym (height_of old n p c.requires.there c.index-part.ensures) ∙ c.requires.leaf in
    subst (λ new. IsRemoved old n e c.settle_at.result new) (sym s.nodes) (told_removed s.part old n e (set old n s.part) c.settle_at.result st.told (shrunk_leaf old n i p s.part k.0 e c.settle_at.result c.requires.there c.index-part.ensures within k.1 leaf c.requires.sound (held_is c.args.b.now c.args.id k.0 h) st))
