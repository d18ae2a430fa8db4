-- When an arena of nodes is a tree.
use Rattle.std.specs.Prelude.{◌≡◌, ◌⊎◌, ℕ, zero, suc, ◌+◌, ◌<◌, ◌≤◌, Bool, true, false, cond, ◌&&◌, ◌==◌, not, List, [], ◌∷◌, ◌++◌, All, sum_by, count_by, length, Option, Some, None, MatchOption, set}
use Rattle.std.specs.Prelude.{get_or, flat_map, map}
use Rattle.mob_stbox.specs.Boxes.{BoxOf, overlaps, contains, is_whole}
use Rattle.mob_rtree_nodes.{specs.declared.node.Child.{Child}, specs.declared.node.Child.TheVariants.{Node, Entry}, specs.declared.node.TreeNode.{TreeNode}, specs.declared.node.Root.{Root}}
use Rattle.mob_rtree_nodes.specs.declared.insert.Grown.{Grown}

-- a child of a node, with its box
abbrev pub Kid : Type 0
Kid = BoxOf × Child

-- an entry: its box and its id
abbrev pub EntryOf : Type 0
EntryOf = BoxOf × ℕ

-- the id of an entry, or the number of a node
abbrev pub target : Child → ℕ
target (Node n) = n
target (Entry id) = id

abbrev pub entry_of : Kid → EntryOf
entry_of k = (k.0, target k.1)

-- a leaf has entries, every other node has nodes
abbrev pub is_kind : ℕ → Child → Bool
is_kind zero (Entry id) = true
is_kind zero (Node n) = false
is_kind (suc h) (Entry id) = false
is_kind (suc h) (Node n) = true

-- a child fits in a node of height h
abbrev pub is_fit : ℕ → Kid → Bool
is_fit h k = is_whole k.0 && is_kind h k.1

-- a reference to a node: its box, its number and its height
pub record Ref : Type 0 where
  pub area : BoxOf
  pub node : ℕ
  pub height : ℕ

-- n, unless there are no children
abbrev pub if_live : List Kid → ℕ → ℕ
if_live [] n = 0
if_live (k ∷ ks) n = n

-- the sum of f over all nodes that have children, where the first node has the number i
abbrev pub nodes_sum : (Ref → ℕ) → ℕ → List TreeNode → ℕ
nodes_sum f i [] = 0
nodes_sum f i (p ∷ ps) = if_live p.kids.items (f (record { area = p.area; node = i; height = p.height })) + nodes_sum f (i + 1) ps

-- the children of a node
abbrev pub kids_at : List TreeNode → ℕ → List Kid
kids_at [] n = []
kids_at (p ∷ ps) zero = p.kids.items
kids_at (p ∷ ps) (suc n) = kids_at ps n

abbrev pub height_at : List TreeNode → ℕ → ℕ
height_at [] n = 0
height_at (p ∷ ps) zero = p.height
height_at (p ∷ ps) (suc n) = height_at ps n

-- n, unless there are children
abbrev pub if_dropped : List Kid → ℕ → ℕ
if_dropped [] n = n
if_dropped (k ∷ ks) n = 0

-- the sum of f over the numbers of all nodes without children, where the first node has the number
-- i
abbrev pub dropped_sum : (ℕ → ℕ) → ℕ → List TreeNode → ℕ
dropped_sum f i [] = 0
dropped_sum f i (p ∷ ps) = if_dropped p.kids.items (f i) + dropped_sum f (i + 1) ps

-- free has the number of each node without children, once
abbrev pub IsFree : List ℕ → List TreeNode → Type 0
IsFree free ps = (f : ℕ → ℕ) → sum_by f free ≡ dropped_sum f 0 ps

-- each node has children
abbrev pub AreLive : List TreeNode → Type 0
AreLive ps = All (λ p. 0 < length p.kids.items) ps

-- Nodes are added only if no dropped one is left: the number of nodes stays the same, unless each
-- has children. If each had children before, each has children after.
pub record IsReused (old new : List TreeNode) : Type 0 where
  pub same : (length new ≡ length old) ⊎ AreLive new
  pub live : AreLive old → AreLive new

-- the node r has the number m, the place of a dropped one or the end
abbrev pub IsPut : List TreeNode → TreeNode → ℕ → List TreeNode → Type 0
IsPut old r m new = ((m < length old) × (kids_at old m ≡ []) × (new ≡ set old m r)) ⊎ ((m ≡ length old) × (new ≡ old ++ r ∷ []))

-- the sum of f over the references in a node of height h
abbrev pub kids_sum : (Ref → ℕ) → ℕ → List Kid → ℕ
kids_sum f zero kids = 0
kids_sum f (suc h) kids = sum_by (λ k. f (record { area = k.0; node = target k.1; height = h })) kids

-- the sum of f over all references in nodes
abbrev pub refs_sum : (Ref → ℕ) → List TreeNode → ℕ
refs_sum f ps = sum_by (λ p. kids_sum f p.height p.kids.items) ps

-- the sum of g over all entries
abbrev pub entries_sum : (EntryOf → ℕ) → List TreeNode → ℕ
entries_sum g ps = sum_by (λ p. cond (p.height == 0) (sum_by (λ k. g (entry_of k)) p.kids.items) 0) ps

-- each box that contains those of all these children contains this one: it is their bounding box
abbrev pub IsLeastOver : BoxOf → List Kid → Type 0
IsLeastOver a kids = (b : BoxOf) → All (λ k. contains b k.0 ≡ true) kids → contains b a ≡ true

-- the box of a node is the bounding box of its children, and these are of its kind
pub record IsSoundNode (p : TreeNode) : Type 0 where
  pub whole : is_whole p.area ≡ true
  pub over : All (λ k. contains p.area k.0 ≡ true) p.kids.items
  pub least : 0 < length p.kids.items → IsLeastOver p.area p.kids.items
  pub fit : count_by (λ k. not (is_fit p.height k)) p.kids.items ≡ 0

-- each node with children is referred to once, from a node one higher, with its own box, except the
-- root; a node without children is not referred to
pub record IsTree (root : Ref) (ps : List TreeNode) : Type 0 where
  pub once : (f : Ref → ℕ) → f root + refs_sum f ps ≡ nodes_sum f 0 ps
  pub sound : All IsSoundNode ps
  pub low : All (λ p. p.height ≤ root.height) ps

-- the sum over a walk down from node n of height h: own for each node and g for each entry whose
-- box passes a test
unfoldable pub walk_sum : (BoxOf → Bool) → (own : ℕ) → (g : EntryOf → ℕ) → List TreeNode → ℕ → ℕ → ℕ
walk_sum test own g ps zero n = own + sum_by (λ k. cond (test k.0) (g (entry_of k)) 0) (kids_at ps n)
walk_sum test own g ps (suc h) n = own + sum_by (λ k. cond (test k.0) (walk_sum test own g ps h (target k.1)) 0) (kids_at ps n)

-- what one child adds to a walk from its parent, which has height h
abbrev pub step_sum : (BoxOf → Bool) → (own : ℕ) → (g : EntryOf → ℕ) → List TreeNode → ℕ → Kid → ℕ
step_sum test own g ps zero k = cond (test k.0) (g (entry_of k)) 0
step_sum test own g ps (suc h) k = cond (test k.0) (walk_sum test own g ps h (target k.1)) 0

-- if a whole box covers one that passes, it passes
abbrev pub GoesUp : (BoxOf → Bool) → Type 0
GoesUp test = (a b : BoxOf) → is_whole a ≡ true → contains a b ≡ true → test b ≡ true → test a ≡ true

-- the children of a node, if it exists
abbrev pub kids_of_more : Option TreeNode → List Kid
kids_of_more None = []
kids_of_more (Some p) = p.kids.items

-- how node n changes with one more child
pub record IsAttached (old : List TreeNode) (n : ℕ) (kid : Kid) (grown : Grown) (new : List TreeNode) : Type 0 where
  pub part : TreeNode
  pub more : Option TreeNode
  pub number : ℕ
  pub nodes : MatchOption more (new ≡ set old n part) (λ r. IsPut (set old n part) r number new)
  pub height : part.height ≡ height_at old n
  pub area : part.area ≡ grown.area
  pub sound : IsSoundNode part
  pub live : 0 < length part.kids.items
  pub kids : (f : Kid → ℕ) → sum_by f part.kids.items + sum_by f (kids_of_more more) ≡ sum_by f (kids_at old n) + f kid
  pub other : MatchOption more (grown.more ≡ None) (λ p. (p.height ≡ height_at old n) × IsSoundNode p × (0 < length p.kids.items) × (grown.more ≡ Some (p.area, Node number)))

-- how a node changes with a new box of a child
pub record IsReplaced (old : TreeNode) (slot : ℕ) (area : BoxOf) (new : TreeNode) : Type 0 where
  pub height : new.height ≡ old.height
  pub sound : IsSoundNode new
  pub kids : (d : Kid) → new.kids.items ≡ set old.kids.items slot (area, (get_or old.kids.items slot d).1)

-- the sum of f over the node that was split off, of height h
abbrev pub more_sum : (Ref → ℕ) → ℕ → Option Kid → ℕ
more_sum f h None = 0
more_sum f h (Some k) = f (record { area = k.0; node = target k.1; height = h })

-- how the nodes change with one more entry below node n
pub record IsGrown (old : List TreeNode) (n : ℕ) (kid : Kid) (grown : Grown) (new : List TreeNode) : Type 0 where
  pub once : (f : Ref → ℕ) (p : TreeNode) → p ≡ get_or old n p
      → nodes_sum f 0 new + (refs_sum f old + f (record { area = p.area; node = n; height = p.height })) ≡ nodes_sum f 0 old + (refs_sum f new + (f (record { area = grown.area; node = n; height = p.height }) + more_sum f p.height grown.more))
  pub entries : (g : EntryOf → ℕ) → entries_sum g new ≡ entries_sum g old + g (entry_of kid)
  pub sound : All IsSoundNode new
  pub low : (m : ℕ) → All (λ p. p.height ≤ m) old → All (λ p. p.height ≤ m) new
  pub above : (i : ℕ) (p : TreeNode) → i < length old → 0 < length p.kids.items → height_at old n < p.height → p ≡ get_or old i p → p ≡ get_or new i p
  pub longer : length old ≤ length new
  pub few : length new ≤ length old + height_at old n + 1
  pub whole : is_whole grown.area ≡ true
  pub more : MatchOption grown.more (0 ≤ 0) (λ k. is_fit (height_at old n + 1) k ≡ true)

-- the reference to the root
abbrev pub ref : Root → Ref
ref r = record { area = r.area; node = r.node; height = r.height }

-- all entries
abbrev pub entries_list : List TreeNode → List EntryOf
entries_list ps = flat_map (λ p. cond (p.height == 0) (map entry_of p.kids.items) []) ps

-- the boxes of the nodes with children
abbrev pub if_live_list : List Kid → BoxOf → List BoxOf
if_live_list [] b = []
if_live_list (k ∷ ks) b = b ∷ []

abbrev pub areas_list : List TreeNode → List BoxOf
areas_list ps = flat_map (λ p. if_live_list p.kids.items p.area) ps

-- one more entry, in any order
abbrev pub IsAdded : List EntryOf → EntryOf → List EntryOf → Type 0
IsAdded old e new = (g : EntryOf → ℕ) → sum_by g new ≡ sum_by g old + g e

-- the same entries, in any order
abbrev pub AreSame : List EntryOf → List EntryOf → Type 0
AreSame xs ys = (g : EntryOf → ℕ) → sum_by g xs ≡ sum_by g ys

-- more has the id of each entry whose box overlaps q, as often as the entry occurs
abbrev pub AreFound : BoxOf → List EntryOf → List ℕ → Type 0
AreFound q entries more = (id : ℕ) → count_by (λ n. n == id) more ≡ count_by (λ e. overlaps e.0 q && (e.1 == id)) entries
