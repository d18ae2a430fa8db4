-- How an arena of nodes changes when the entries of many ids are removed.
use Rattle.std.{specs.Prelude.{◌≡◌, ◌⊎◌, ℕ, ◌<◌, ◌≤◌, ◌==◌, cond, List, [], length, get_or, set, slice_get, Option, Some, None, option_and_then}, specs.List.{filter_map}}
use Rattle.mob_stbox.specs.Boxes.{BoxOf}
use Rattle.mob_rtree_nodes.{specs.Tree.{Kid, target, Ref, IsTree, IsSoundNode, AreSame, entries_list}, specs.Ids.{without_ids}, specs.declared.node.TreeNode.{TreeNode}}
use Rattle.mob_list.specs.Live.{is_among}

-- an entry, unless its id is one of these
abbrev pub left_entry : List ℕ → Kid → Option Kid
left_entry ids k = cond (is_among (target k.1) ids) None (Some k)

-- a child that is a node, with that node's own box, unless it has no children
abbrev pub left_node : List TreeNode → Kid → Option Kid
left_node ps k = option_and_then (λ (p : TreeNode). cond (length p.kids.items == 0) None (Some (p.area, k.1))) (slice_get ps (target k.1))

-- a child of a node of height h after the removal, for these nodes
abbrev pub left_kid : List ℕ → List TreeNode → ℕ → Kid → Option Kid
left_kid ids ps h k = cond (h == 0) (left_entry ids k) (left_node ps k)

-- a node has the children that are left, and their bounding box
pub record IsSiftedNode (ids : List ℕ) (ps : List TreeNode) (old new : TreeNode) : Type 0 where
  pub height : new.height ≡ old.height
  pub sound : IsSoundNode new
  pub kids : new.kids.items ≡ filter_map (left_kid ids ps old.height) old.kids.items

-- so does each node
pub record IsSifted (ids : List ℕ) (old new : List TreeNode) : Type 0 where
  pub size : length new ≡ length old
  pub each : (i : ℕ) (p q : TreeNode) → i < length old → p ≡ get_or old i p → q ≡ get_or new i q → IsSiftedNode ids new p q

-- so does node n
pub record IsSiftedAt (ids : List ℕ) (old : List TreeNode) (n : ℕ) (new : List TreeNode) : Type 0 where
  pub part : TreeNode
  pub nodes : new ≡ set old n part
  pub sifted : (p : TreeNode) → p ≡ get_or old n p → IsSiftedNode ids old p part

-- so does each node that is lower than h, or has height h and a number below n; the others are
-- unchanged
pub record IsSiftedUpTo (ids : List ℕ) (old : List TreeNode) (h n : ℕ) (ps : List TreeNode) : Type 0 where
  pub size : length ps ≡ length old
  pub done : (i : ℕ) (p q : TreeNode) → i < length old → p ≡ get_or old i p → q ≡ get_or ps i q → (p.height < h) ⊎ ((p.height ≡ h) × (i < n)) → IsSiftedNode ids ps p q
  pub rest : (i : ℕ) (p q : TreeNode) → i < length old → p ≡ get_or old i p → q ≡ get_or ps i q → (h < p.height) ⊎ ((p.height ≡ h) × (n ≤ i)) → q ≡ p

-- the result of removing the entries of these ids from a tree: the box of its root, or none if no
-- entry is left
abbrev pub IsTreeLeft : Ref → List ℕ → List TreeNode → Option BoxOf → List TreeNode → Type 0
IsTreeLeft root ids old None new = AreSame [] (without_ids ids (entries_list old))
IsTreeLeft root ids old (Some b) new = IsTree (record { area = b; node = root.node; height = root.height }) new × AreSame (entries_list new) (without_ids ids (entries_list old))
