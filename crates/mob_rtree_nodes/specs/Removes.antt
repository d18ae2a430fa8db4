-- How an arena of nodes changes when an entry is removed.
use Rattle.std.specs.Prelude.{◌≡◌, ℕ, ◌+◌, ◌<◌, ◌≤◌, ◌&&◌, Bool, true, cond, ◌==◌, List, [], All, sum_by, length, set, get_or}
use Rattle.mob_stbox.specs.Boxes.{BoxOf, contains, is_whole, same_box}
use Rattle.mob_rtree_nodes.specs.Tree.{Kid, EntryOf, target, Ref, IsTree, IsAdded, entries_list, IsSoundNode, nodes_sum, refs_sum, entries_sum, height_at, walk_sum}
use Rattle.mob_rtree_nodes.{specs.declared.node.TreeNode.{TreeNode}, specs.declared.remove.Removed.{Removed}, specs.declared.remove.Removed.TheVariants.{Missing, Narrowed, Emptied}}

-- a child is the entry of this box and id, if it is an entry
abbrev pub is_entry : BoxOf → ℕ → Kid → Bool
is_entry b id k = same_box k.0 b && (target k.1 == id)

-- 1 at that entry, else 0
abbrev pub hit : EntryOf → EntryOf → ℕ
hit e x = cond (same_box x.0 e.0 && (x.1 == e.1)) 1 0

abbrev pub is_whole_left : Removed → Bool
is_whole_left Missing = true
is_whole_left (Narrowed b) = is_whole b
is_whole_left Emptied = true

-- f at a child after a removal
abbrev pub kid_left : (Kid → ℕ) → Kid → Removed → ℕ
kid_left f k Missing = 0
kid_left f k (Narrowed b) = f (b, k.1)
kid_left f k Emptied = 0

-- f at the reference to node n of height h after a removal
abbrev pub node_left : (Ref → ℕ) → ℕ → ℕ → Removed → ℕ
node_left f n h Missing = 0
node_left f n h (Narrowed b) = f (record { area = b; node = n; height = h })
node_left f n h Emptied = 0

-- the result describes the node
abbrev pub IsNodeLeft : TreeNode → Removed → Type 0
IsNodeLeft p Missing = ⊥
IsNodeLeft p (Narrowed b) = (b ≡ p.area) × (0 < length p.kids.items)
IsNodeLeft p Emptied = p.kids.items ≡ []

-- how a node changes after this removal below a child
pub record IsSettled (old : TreeNode) (slot : ℕ) (removed : Removed) (result : Removed) (new : TreeNode) : Type 0 where
  pub height : new.height ≡ old.height
  pub sound : IsSoundNode new
  pub kids : (f : Kid → ℕ) (k : Kid) → k ≡ get_or old.kids.items slot k → sum_by f new.kids.items + f k ≡ sum_by f old.kids.items + kid_left f k removed
  pub told : IsNodeLeft new result

pub record IsSettledAt (old : List TreeNode) (n slot : ℕ) (removed : Removed) (result : Removed) (new : List TreeNode) : Type 0 where
  pub part : TreeNode
  pub nodes : new ≡ set old n part
  pub settled : (p : TreeNode) → p ≡ get_or old n p → IsSettled p slot removed result part

-- how the nodes change with one entry fewer below node n
pub record IsShrunk (old : List TreeNode) (n : ℕ) (e : EntryOf) (result : Removed) (new : List TreeNode) : Type 0 where
  pub once : (f : Ref → ℕ) (p : TreeNode) → p ≡ get_or old n p
      → nodes_sum f 0 new + (refs_sum f old + f (record { area = p.area; node = n; height = p.height })) ≡ nodes_sum f 0 old + (refs_sum f new + node_left f n p.height result)
  pub entries : (g : EntryOf → ℕ) → entries_sum g new + g e ≡ entries_sum g old
  pub sound : All IsSoundNode new
  pub low : (m : ℕ) → All (λ p. p.height ≤ m) old → All (λ p. p.height ≤ m) new
  pub above : (i : ℕ) (p : TreeNode) → i < length old → height_at old n < p.height → p ≡ get_or old i p → p ≡ get_or new i p
  pub size : length new ≡ length old
  pub whole : is_whole_left result ≡ true

-- the result of removing an entry below node n
abbrev pub IsRemoved : List TreeNode → ℕ → EntryOf → Removed → List TreeNode → Type 0
IsRemoved old n e Missing new = walk_sum (λ a. contains a e.0) 0 (hit e) old (height_at old n) n ≡ 0
IsRemoved old n e (Narrowed b) new = IsShrunk old n e (Narrowed b) new
IsRemoved old n e Emptied new = IsShrunk old n e Emptied new

-- the result of removing an entry from a tree
abbrev pub IsTakenOut : Ref → List TreeNode → EntryOf → Removed → List TreeNode → Type 0
IsTakenOut root old e Missing new = All (λ x. x ≡ e → ⊥) (entries_list old)
IsTakenOut root old e (Narrowed b) new = IsTree (record { area = b; node = root.node; height = root.height }) new × IsAdded (entries_list new) e (entries_list old)
IsTakenOut root old e Emptied new = IsAdded [] e (entries_list old)
