-- What a caller sees of the nodes, and what can be reached from the root.
use Rattle.std.specs.Prelude.{◌≡◌, ℕ, zero, suc, ◌+◌, ◌<◌, true, List, [], ◌∷◌, All, length, Option, Some, None, get_or, map, flat_map}
use Rattle.mob_stbox.specs.Boxes.{BoxOf, contains}
use Rattle.mob_rtree_nodes.{specs.Tree.{Kid, EntryOf, entry_of, target, is_kind, IsLeastOver}, specs.declared.node.Child.TheVariants.{Node, Entry}, specs.declared.node.TreeNode.{TreeNode}}

-- a node: its box, its height above the leaves, and its children
pub record Branch : Type 0 where
  pub area : BoxOf
  pub height : ℕ
  pub kids : List Kid

abbrev pub branch_of : TreeNode → Branch
branch_of p = record { area = p.area; height = p.height; kids = p.kids.items }

abbrev pub root_number : List TreeNode → ℕ → Option ℕ
root_number [] n = None
root_number (p ∷ ps) n = Some n

-- the children of a node
abbrev pub children : List Branch → ℕ → List Kid
children [] n = []
children (b ∷ bs) zero = b.kids
children (b ∷ bs) (suc n) = children bs n

-- the height of a node
abbrev pub branch_height : List Branch → ℕ → ℕ
branch_height [] n = 0
branch_height (b ∷ bs) zero = b.height
branch_height (b ∷ bs) (suc n) = branch_height bs n

-- the entries below node n of height h
unfoldable pub gathered : List Branch → ℕ → ℕ → List EntryOf
gathered bs zero n = map entry_of (children bs n)
gathered bs (suc h) n = flat_map (λ k. gathered bs h (target k.1)) (children bs n)

-- the entries below a node
abbrev pub entries_under : List Branch → ℕ → List EntryOf
entries_under bs n = gathered bs (branch_height bs n) n

-- the entries below a child, or the entry that it is
abbrev pub entries_below : List Branch → Kid → List EntryOf
entries_below bs (b, Entry id) = (b, id) ∷ []
entries_below bs (b, Node n) = entries_under bs n

-- a node is at this depth: the root at 0, and a child of a node one deeper
pub data StandsAtDepth : List Branch → Option ℕ → ℕ → ℕ → Type 0 where
  is_root : {bs : List Branch} {root : Option ℕ} {n : ℕ} → root ≡ Some n → StandsAtDepth bs root 0 n
  is_child : {bs : List Branch} {root : Option ℕ} {depth n m i : ℕ} {b : BoxOf} → StandsAtDepth bs root depth n → i < length (children bs n) → (b, Node m) ≡ get_or (children bs n) i (b, Node m) → StandsAtDepth bs root (suc depth) m

-- a node is reached from the root
abbrev pub IsReachedNode : List Branch → Option ℕ → ℕ → Type 0
IsReachedNode bs root n = (depth : ℕ) × StandsAtDepth bs root depth n

-- a leaf: a node whose children are entries
abbrev pub IsLeaf : List Branch → ℕ → Type 0
IsLeaf bs n = All (λ k. is_kind 0 k.1 ≡ true) (children bs n)

-- all leaves are at one depth
abbrev pub HaveOneDepth : List Branch → Option ℕ → Type 0
HaveOneDepth bs root = (depth other n m : ℕ) → StandsAtDepth bs root depth n → StandsAtDepth bs root other m → IsLeaf bs n → IsLeaf bs m → depth ≡ other

-- the children of node n: each entry below it is below one of them, as often as it occurs, under a
-- box that covers it; its children are entries if its height is 0, else nodes; and a child that is
-- a node is one lower, with the bounding box of its own children
pub record IsSpread (bs : List Branch) (n : ℕ) : Type 0 where
  pub some : 0 < length (children bs n)
  pub spread : entries_under bs n ≡ flat_map (entries_below bs) (children bs n)
  pub over : All (λ k. All (λ e. contains k.0 e.0 ≡ true) (entries_below bs k)) (children bs n)
  pub kind : All (λ k. is_kind (branch_height bs n) k.1 ≡ true) (children bs n)
  pub one_lower : (i m : ℕ) (b : BoxOf) → i < length (children bs n) → (b, Node m) ≡ get_or (children bs n) i (b, Node m) → branch_height bs m + 1 ≡ branch_height bs n
  pub least : (i m : ℕ) (b : BoxOf) → i < length (children bs n) → (b, Node m) ≡ get_or (children bs n) i (b, Node m) → IsLeastOver b (children bs m)
