-- What a contract sees of an R-tree.
use Rattle.std.specs.Prelude.{◌≡◌, ◌⊎◌, ◌<◌, ℕ, true, List, All, Option, length, flat_map}
use Rattle.mob_stbox.specs.Boxes.{BoxOf, contains}
use Rattle.mob_rtree_nodes.{specs.Tree.{EntryOf, IsLeastOver, if_live_list}, specs.Reach.{Branch}}

-- the entries, in any order; the boxes of the nodes that have children; for how many more entries
-- there is memory; the nodes by their numbers, with the dropped ones, which have no children; and
-- the number of the root
pub record Shape : Type 0 where
  pub entries : List EntryOf
  pub areas : List BoxOf
  pub spare : ℕ
  pub nodes : List Branch
  pub root : Option ℕ

-- all is as before, except for the memory that is kept
pub record IsAsBefore (old new : Shape) : Type 0 where
  pub entries : new.entries ≡ old.entries
  pub areas : new.areas ≡ old.areas
  pub nodes : new.nodes ≡ old.nodes
  pub root : new.root ≡ old.root

-- dropped nodes are used again: the number of nodes stays the same, unless each has children
abbrev pub AreUsedAgain : List Branch → List Branch → Type 0
AreUsedAgain old new = (length new ≡ length old) ⊎ All (λ b. 0 < length b.kids) new

-- the boxes of the nodes that have children
abbrev pub boxes_of : List Branch → List BoxOf
boxes_of bs = flat_map (λ b. if_live_list b.kids b.area) bs

-- if a node has children, its box is the bounding box of theirs: it contains each, and is in each
-- box that does
pub record HasLeastBox (b : Branch) : Type 0 where
  pub over : All (λ k. contains b.area k.0 ≡ true) b.kids
  pub least : 0 < length b.kids → IsLeastOver b.area b.kids
