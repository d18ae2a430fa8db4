-- From the nodes to what a contract sees of them.
use Rattle.std.{specs.Prelude.{All}, proofs.Common.{◌≡◌, refl, suc, ◌<◌, List, [], ◌∷◌, ◌++◌, length, map, arith, ap, sym, ◌∙◌, inl, inr}, proofs.lemmas.List.Concat.{flat_map-cons}}
use Rattle.std.proofs.lemmas.List.Elements.{All-head, All-tail, All-cons, All-nil}
use Rattle.mob_rtree_nodes.{specs.Tree.{IsSoundNode, IsReused, AreLive, IsTree, Ref, areas_list, if_live_list}, specs.Reach.{Branch, branch_of}, specs.declared.node.TreeNode.{TreeNode}}
use Rattle.mob_rtree.specs.Shape.{AreUsedAgain, HasLeastBox, boxes_of}

sizes : (ps : List TreeNode) → length (map branch_of ps) ≡ length ps
sizes [] = refl
sizes (p ∷ ps) = ap suc (sizes ps)

live_branches : (ps : List TreeNode) → AreLive ps → All (λ b. 0 < length b.kids) (map branch_of ps)
live_branches [] all = All-nil (λ b. 0 < length b.kids)
live_branches (p ∷ ps) all = All-cons (λ b. 0 < length b.kids) (branch_of p) (map branch_of ps) (All-head (λ p. 0 < length p.kids.items) p ps all) (live_branches ps (All-tail (λ p. 0 < length p.kids.items) p ps all))

pub used_again : (old new : List TreeNode) → IsReused old new → AreUsedAgain (map branch_of old) (map branch_of new)
used_again old new by = elim by.same [ inl e ↦ inl (sizes new ∙ e ∙ sym (sizes old)) | inr l ↦ inr (live_branches new l) ]

pub areas_are : (ps : List TreeNode) → areas_list ps ≡ boxes_of (map branch_of ps)
areas_are [] = refl
areas_are (p ∷ ps) =
    flat_map-cons (λ (p : TreeNode). if_live_list p.kids.items p.area) p ps
    ∙ ap (λ l. if_live_list p.kids.items p.area ++ l) (areas_are ps)
    ∙ sym (flat_map-cons (λ (b : Branch). if_live_list b.kids b.area) (branch_of p) (map branch_of ps))

least_boxes : (ps : List TreeNode) → All IsSoundNode ps → All HasLeastBox (map branch_of ps)
least_boxes [] all = All-nil HasLeastBox
least_boxes (p ∷ ps) all =
    let s = All-head IsSoundNode p ps all in
    All-cons HasLeastBox (branch_of p) (map branch_of ps) (record { over = s.over; least = s.least }) (least_boxes ps (All-tail IsSoundNode p ps all))

-- in a tree, or if there are no nodes
pub boxes_least : (root : Ref) (ps : List TreeNode) → ((0 < length ps) → IsTree root ps) → All HasLeastBox (map branch_of ps)
boxes_least root [] tree = All-nil HasLeastBox
boxes_least root (p ∷ ps) tree = least_boxes (p ∷ ps) (tree (omega arith)).sound
