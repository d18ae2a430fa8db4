-- How a tree is built, level by level.
use Rattle.std.specs.Prelude.{◌≡◌, ℕ, suc, ◌+◌, ◌<◌, ◌≤◌, cond, not, ◌==◌, List, [], ◌∷◌, ◌++◌, All, sum_by, count_by, length}
use Rattle.mob_rtree_nodes.{specs.Tree.{Kid, EntryOf, entry_of, Ref, IsSoundNode, AreLive, is_fit, nodes_sum, kids_sum, refs_sum, entries_sum}, specs.declared.node.Child.TheVariants.{Node, Entry}}
use Rattle.mob_rtree_nodes.specs.declared.node.TreeNode.{TreeNode}

-- an entry as a child of a leaf
abbrev pub kid_of : EntryOf → Kid
kid_of e = (e.0, Entry e.1)

-- the sum of g over the entries of a node of height h with these children
abbrev pub leaf_sum : (EntryOf → ℕ) → List Kid → ℕ → ℕ
leaf_sum g kids h = cond (h == 0) (sum_by (λ k. g (entry_of k)) kids) 0

-- separate trees whose roots could be the children of a node of height h; at height 0 these are
-- entries
pub record IsForest (h : ℕ) (kids : List Kid) (ps : List TreeNode) : Type 0 where
  pub once : (f : Ref → ℕ) → kids_sum f h kids + refs_sum f ps ≡ nodes_sum f 0 ps
  pub sound : All IsSoundNode ps
  pub low : All (λ p. p.height < h) ps
  pub live : AreLive ps
  pub fit : count_by (λ k. not (is_fit h k)) kids ≡ 0

-- while a level is packed: the children so far are in nodes, which are in above, or wait
pub record IsPacking (h : ℕ) (old : List TreeNode) (came : List Kid) (ps : List TreeNode) (above waiting : List Kid) : Type 0 where
  pub once : (f : Ref → ℕ) → nodes_sum f 0 ps + (refs_sum f old + kids_sum f h came) ≡ nodes_sum f 0 old + (refs_sum f ps + (kids_sum f (suc h) above + kids_sum f h waiting))
  pub entries : (g : EntryOf → ℕ) → entries_sum g ps + leaf_sum g waiting h ≡ entries_sum g old + leaf_sum g came h
  pub sound : All IsSoundNode ps
  pub low : All (λ p. p.height ≤ h) ps
  pub live : AreLive ps
  pub fit : count_by (λ k. not (is_fit (suc h) k)) above ≡ 0
  pub waits : count_by (λ k. not (is_fit h k)) waiting ≡ 0

-- a node is made of the waiting children
pub record IsClosed (h : ℕ) (ps : List TreeNode) (above waiting : List Kid) (new : List TreeNode) (beyond : List Kid) : Type 0 where
  pub part : TreeNode
  pub nodes : new ≡ ps ++ part ∷ []
  pub listed : beyond ≡ above ++ (part.area, Node (length ps)) ∷ []
  pub kids : part.kids.items ≡ waiting
  pub height : part.height ≡ h
  pub sound : IsSoundNode part
