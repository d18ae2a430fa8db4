-- From the root each entry is reached as often as it occurs.
use Rattle.std.specs.Prelude.{All, sum_by, flat_map}
use Rattle.std.proofs.Common.{◌≡◌, refl, ℕ, zero, suc, ◌+◌, ◌<◌, ◌≤◌, Bool, true, false, cond, List, [], ◌∷◌, ◌++◌, length, get_or, map, arith, ap, sym, ◌∙◌, subst, Option, Some, None}
use Rattle.std.{proofs.lemmas.Bool.{true≢false, and_parts}, proofs.lemmas.List.{get_or_default}, proofs.lemmas.List.Sums.{sum_by-cons, sum_by-append, get_or-le-sum_by}}
use Rattle.std.{proofs.lemmas.List.Concat.{flat_map-cons, flat_map_single}, proofs.lemmas.List.Elements.{All-head, All-tail, All-append, All-cons, All-nil}}
use Rattle.mob_stbox.{specs.Boxes.{BoxOf, contains, is_whole}, proofs.BoxLaws.{over_self, over_trans, over_whole}}
use Rattle.mob_rtree_nodes.specs.Tree.{Kid, EntryOf, entry_of, target, Ref, IsTree, IsSoundNode, entries_list, kids_at, height_at, walk_sum, is_fit, is_kind, AreSame, IsLeastOver}
use Rattle.mob_rtree_nodes.specs.Reach.{Branch, branch_of, root_number, children, branch_height, gathered, entries_under, entries_below, StandsAtDepth, IsReachedNode, is_root, is_child, IsLeaf}
use Rattle.mob_rtree_nodes.{specs.Reach.{HaveOneDepth, IsSpread}, specs.declared.node.Child.{Child}, specs.declared.node.Child.TheVariants.{Node, Entry}, specs.declared.node.TreeNode.{TreeNode}}
use Rattle.mob_rtree_nodes.{proofs.Sums.{mapped_sum, kids_of, height_of, node_at, sound_at}, proofs.Covers.{none_fails}, proofs.Walks.{tied_same, tied_height, alive}}
use Rattle.mob_rtree_nodes.proofs.Roots.{root_there, root_height, root_alive, walk_entries}

pub children_is : (ps : List TreeNode) (n : ℕ) → children (map branch_of ps) n ≡ kids_at ps n
children_is [] n = refl
children_is (p ∷ ps) zero = refl
children_is (p ∷ ps) (suc n) = children_is ps n

pub level_is : (ps : List TreeNode) (n : ℕ) → branch_height (map branch_of ps) n ≡ height_at ps n
level_is [] n = refl
level_is (p ∷ ps) zero = refl
level_is (p ∷ ps) (suc n) = level_is ps n

flat_sum : {X Y : Type 0} (g : Y → ℕ) (f : X → List Y) (v : X → ℕ) → ((x : X) → sum_by g (f x) ≡ v x) → (xs : List X) → sum_by g (flat_map f xs) ≡ sum_by v xs
flat_sum g f v says [] = refl
flat_sum g f v says (x ∷ xs) = omega (arith, ap (sum_by g) (flat_map-cons f x xs), sum_by-append g (f x) (flat_map f xs), sum_by-cons v x xs, says x, flat_sum g f v says xs)

-- the entries below a node, as a walk sums them up
pub gathered_sum : (g : EntryOf → ℕ) (ps : List TreeNode) (h n : ℕ) → sum_by g (gathered (map branch_of ps) h n) ≡ walk_sum (λ _. true) 0 g ps h n
unfolding gathered walk_sum
gathered_sum g ps zero n = omega (arith, ap (λ l. sum_by g (map entry_of l)) (children_is ps n), mapped_sum g entry_of (kids_at ps n))
gathered_sum g ps (suc h) n =
    let bs = map branch_of ps in
    omega (
      arith,
      ap (λ l. sum_by g (flat_map (λ k. gathered bs h (target k.1)) l)) (children_is ps n),
      flat_sum g (λ k. gathered bs h (target k.1)) (λ k. walk_sum (λ _. true) 0 g ps h (target k.1)) (λ k. gathered_sum g ps h (target k.1)) (kids_at ps n),
    )

pub root_gathers : (root : Ref) (ps : List TreeNode) → IsTree root ps → AreSame (entries_under (map branch_of ps) root.node) (entries_list ps)
root_gathers root ps tree g =
    let e = level_is ps root.node ∙ root_height root ps tree in
    ap (λ h. sum_by g (gathered (map branch_of ps) h root.node)) e ∙ gathered_sum g ps root.height root.node ∙ walk_entries (λ _. true) (λ a b w o h. refl) g root ps tree

-- the children of a node are of its kind
kind_at : (ps : List TreeNode) (n i : ℕ) (p : TreeNode) (k : Kid) → All IsSoundNode ps → n < length ps → p ≡ get_or ps n p → i < length p.kids.items → k ≡ get_or p.kids.items i k → is_kind p.height k.1 ≡ true
kind_at ps n i p k sound inside is within at =
    let s = sound_at ps n p inside is sound in
    let f = none_fails (is_fit p.height) p.kids.items i k s.fit within in
    (and_parts (is_whole k.0) (is_kind p.height k.1) (ap (λ (k : Kid). is_fit p.height k) at ∙ f)).1

entry_low : (h : ℕ) (id : ℕ) → is_kind h (Entry id) ≡ true → h ≡ 0
entry_low zero id e = refl
entry_low (suc h) id e = absurd (true≢false (sym e))

-- if a child fits at two heights and one is 0, so is the other
kind_low : (h : ℕ) (c : Child) → is_kind 0 c ≡ true → is_kind h c ≡ true → h ≡ 0
kind_low h (Entry id) low e = entry_low h id e
kind_low h (Node m) low e = absurd (true≢false (sym low))

node_high : (h m : ℕ) → is_kind h (Node m) ≡ true → (l : ℕ) × (h ≡ suc l)
node_high zero m e = absurd (true≢false (sym e))
node_high (suc h) m e = (h, refl)

some_number : (a b : ℕ) → Some a ≡ Some b → a ≡ b
some_number a b e = ap (λ (o : Option ℕ). from o) e
  where
    from : Option ℕ → ℕ
    from None = 0
    from (Some n) = n

same_flat : (f g : Kid → List EntryOf) (xs : List Kid) → ((i : ℕ) (k : Kid) → i < length xs → k ≡ get_or xs i k → f k ≡ g k) → flat_map f xs ≡ flat_map g xs
same_flat f g [] says = refl
same_flat f g (x ∷ xs) says =
    flat_map-cons f x xs ∙ ap (λ l. l ++ flat_map f xs) (says 0 x (omega arith) refl) ∙ ap (λ l. g x ++ l) (same_flat f g xs (λ i k l at. says (suc i) k (omega (arith, l)) at)) ∙ sym (flat_map-cons g x xs)

-- an element read with a different default is the same
read_again : (xs : List Kid) (i : ℕ) (d : Kid) → i < length xs → get_or xs i d ≡ get_or xs i (get_or xs i d)
read_again xs i d l = get_or_default xs i d (get_or xs i d) l

first_kid : (xs : List Kid) → 0 < length xs → (k : Kid) × (k ≡ get_or xs 0 k)
first_kid [] l = absurd (omega (arith, l))
first_kid (x ∷ xs) l = (x, refl)

one_true : (b : Bool) → ◌≡◌ {A = ℕ} (cond b 1 0) 1 → b ≡ true
one_true true e = refl
one_true false e = absurd (omega (arith, e))

module _ (root : Ref) (ps : List TreeNode) (tree : IsTree root ps) where
  -- a child that is a node
  node_kid : (n i m : ℕ) (b : BoxOf) (p : TreeNode) → n < length ps → p ≡ get_or ps n p → i < length p.kids.items → (b, Node m) ≡ get_or p.kids.items i (b, Node m)
      → (h : ℕ) × (p.height ≡ suc h) × (m < length ps) × (height_at ps m ≡ h) × (0 < length (kids_at ps m))
  node_kid n i m b p inside is within at =
      let h = node_high p.height m (kind_at ps n i p (b, Node m) tree.sound inside is within at) in
      let t = tied_height root ps tree n h.0 i p (b, Node m) inside is h.1 within at in
      (h.0, h.1, t.0, t.1, alive root ps tree n h.0 i p (b, Node m) inside is h.1 within at)

  -- a reached node exists, has children, and is as much lower than the root as it is deep
  reached_ok : (depth n : ℕ) → StandsAtDepth (map branch_of ps) (Some root.node) depth n → (n < length ps) × (0 < length (kids_at ps n)) × (height_at ps n + depth ≡ root.height)
  reached_ok depth n (is_root e) =
      subst (λ n. (n < length ps) × (0 < length (kids_at ps n)) × (height_at ps n + 0 ≡ root.height)) (some_number root.node n e) (root_there root ps tree, root_alive root ps tree, omega (arith, root_height root ps tree))
  reached_ok depth n (is_child {depth = above} {n = up} {i = i} {b = b} way within at) =
      let o = reached_ok above up way in
      let p = node_at ps up o.0 in
      let same = children_is ps up ∙ kids_of ps up p.0 o.0 p.1 in
      let r = node_kid up i n b p.0 o.0 p.1 (omega (arith, within, ap (λ (l : List Kid). length l) same)) (at ∙ ap (λ l. get_or l i (b, Node n)) same) in
      (r.2, r.4, omega (arith, o.2, height_of ps up p.0 o.0 p.1, r.1, r.3))

  -- the children of a node are of its kind
  kinds_at : (n : ℕ) (p : TreeNode) → n < length ps → p ≡ get_or ps n p → All (λ k. is_kind p.height k.1 ≡ true) p.kids.items
  kinds_at n p inside is i d l = kind_at ps n i p (get_or p.kids.items i d) tree.sound inside is l (read_again p.kids.items i d l)

  leaf_low : (depth n : ℕ) → StandsAtDepth (map branch_of ps) (Some root.node) depth n → IsLeaf (map branch_of ps) n → depth ≡ root.height
  leaf_low depth n way leaf =
      let o = reached_ok depth n way in
      let p = node_at ps n o.0 in
      let same = kids_of ps n p.0 o.0 p.1 in
      let k = first_kid p.0.kids.items (omega (arith, o.1, ap (λ (l : List Kid). length l) same)) in
      let l : 0 < length p.0.kids.items = omega (arith, o.1, ap (λ (l : List Kid). length l) same) in
      let low = subst (λ l. All (λ k. is_kind 0 k.1 ≡ true) l) (children_is ps n ∙ same) leaf 0 k.0 l in
      let zero_high = kind_low p.0.height (get_or p.0.kids.items 0 k.0).1 low (kinds_at n p.0 o.0 p.1 0 k.0 l) in
      omega (arith, o.2, height_of ps n p.0 o.0 p.1, zero_high)

  pub one_depth : HaveOneDepth (map branch_of ps) (Some root.node)
  one_depth depth other n m way way_too leaf leaf_too = leaf_low depth n way leaf ∙ sym (leaf_low other m way_too leaf_too)

  -- each box over a node covers what is below it
  gathered_over : (a : BoxOf) → is_whole a ≡ true → (h m : ℕ) (c : TreeNode) → m < length ps → c ≡ get_or ps m c → c.height ≡ h → contains a c.area ≡ true → All (λ e. contains a e.0 ≡ true) (gathered (map branch_of ps) h m)
  unfolding gathered
  gathered_over a whole zero m c inside is high over =
      subst (λ l. All (λ e. contains a e.0 ≡ true) (map entry_of l)) (sym (children_is ps m ∙ kids_of ps m c inside is)) (all_held c.kids.items (λ i d l. over_trans a c.area (get_or c.kids.items i d).0 over ((sound_at ps m c inside is tree.sound).over i d l)))
    where
      all_held : (kids : List Kid) → All (λ k. contains a k.0 ≡ true) kids → All (λ e. contains a e.0 ≡ true) (map entry_of kids)
      all_held [] all = All-nil (λ e. contains a e.0 ≡ true)
      all_held (k ∷ kids) all = All-cons (λ e. contains a e.0 ≡ true) (entry_of k) (map entry_of kids) (All-head (λ k. contains a k.0 ≡ true) k kids all) (all_held kids (All-tail (λ k. contains a k.0 ≡ true) k kids all))
  gathered_over a whole (suc h) m c inside is high over =
      subst (λ l. All (λ e. contains a e.0 ≡ true) (flat_map (λ k. gathered (map branch_of ps) h (target k.1)) l)) (sym (children_is ps m ∙ kids_of ps m c inside is))
      (all_flat c.kids.items (λ i d l.
      let k = get_or c.kids.items i d in
      let at : k ≡ get_or c.kids.items i k = read_again c.kids.items i d l in
      let t = tied_height root ps tree m h i c k inside is high l at in
      let below = node_at ps (target k.1) t.0 in
      let one = over_trans a c.area k.0 over ((sound_at ps m c inside is tree.sound).over i d l) in
      let same = tied_same root ps tree m h i c k inside is high l at below.0 t.0 below.1 (λ r. cond (contains a r.area) 1 0) in
      gathered_over a whole h (target k.1) below.0 t.0 below.1 (sym (height_of ps (target k.1) below.0 t.0 below.1) ∙ t.1) (one_true (contains a below.0.area) (same ∙ ap {B = ℕ} (λ b. cond b 1 0) one))))
    where
      all_flat : (kids : List Kid) → All (λ k. All (λ e. contains a e.0 ≡ true) (gathered (map branch_of ps) h (target k.1))) kids → All (λ e. contains a e.0 ≡ true) (flat_map (λ k. gathered (map branch_of ps) h (target k.1)) kids)
      all_flat [] all = All-nil (λ e. contains a e.0 ≡ true)
      all_flat (k ∷ kids) all =
          let P : Kid → Type 0 = λ k. All (λ e. contains a e.0 ≡ true) (gathered (map branch_of ps) h (target k.1)) in
          subst (All (λ e. contains a e.0 ≡ true)) (sym (flat_map-cons (λ k. gathered (map branch_of ps) h (target k.1)) k kids))
          (All-append (λ e. contains a e.0 ≡ true) (gathered (map branch_of ps) h (target k.1)) (flat_map (λ k. gathered (map branch_of ps) h (target k.1)) kids) (All-head P k kids all) (all_flat kids (All-tail P k kids all)))

  -- a child at a slot, as a record of its facts
  kid_below : (a : BoxOf) → is_whole a ≡ true → (n i : ℕ) (p : TreeNode) (k : Kid) → n < length ps → p ≡ get_or ps n p → i < length p.kids.items → k ≡ get_or p.kids.items i k → contains a k.0 ≡ true
      → All (λ e. contains a e.0 ≡ true) (entries_below (map branch_of ps) k)
  kid_below a whole n i p (b, Entry id) inside is within at over = All-cons (λ e. contains a e.0 ≡ true) (b, id) [] over (All-nil (λ e. contains a e.0 ≡ true))
  kid_below a whole n i p (b, Node m) inside is within at over =
      let r = node_kid n i m b p inside is within at in
      let c = node_at ps m r.2 in
      let same = tied_same root ps tree n r.0 i p (b, Node m) inside is r.1 within at c.0 r.2 c.1 (λ r. cond (contains a r.area) 1 0) in
      let high = level_is ps m in
      gathered_over a whole (branch_height (map branch_of ps) m) m c.0 r.2 c.1 (sym (height_of ps m c.0 r.2 c.1) ∙ sym high) (one_true (contains a c.0.area) (same ∙ ap {B = ℕ} (λ b. cond b 1 0) over))

  kid_list : (n i : ℕ) (p : TreeNode) (k : Kid) (h : ℕ) → n < length ps → p ≡ get_or ps n p → i < length p.kids.items → k ≡ get_or p.kids.items i k → p.height ≡ suc h
      → gathered (map branch_of ps) h (target k.1) ≡ entries_below (map branch_of ps) k
  kid_list n i p (b, Entry id) h inside is within at high = absurd (omega (arith, high, entry_low p.height id (kind_at ps n i p (b, Entry id) tree.sound inside is within at)))
  kid_list n i p (b, Node m) h inside is within at high =
      let r = node_kid n i m b p inside is within at in
      ap (λ h. gathered (map branch_of ps) h m) (omega (arith, r.1, r.3, high, level_is ps m))

  kid_held : (n i : ℕ) (p : TreeNode) (k : Kid) → n < length ps → p ≡ get_or ps n p → i < length p.kids.items → k ≡ get_or p.kids.items i k → p.height ≡ 0
      → entry_of k ∷ [] ≡ entries_below (map branch_of ps) k
  kid_held n i p (b, Entry id) inside is within at high = refl
  kid_held n i p (b, Node m) inside is within at high = let h = node_high p.height m (kind_at ps n i p (b, Node m) tree.sound inside is within at) in let e = h.1 in absurd (omega (arith, high, e))

  spread_at : (n : ℕ) (p : TreeNode) → n < length ps → p ≡ get_or ps n p → (h : ℕ) → p.height ≡ h → gathered (map branch_of ps) h n ≡ flat_map (entries_below (map branch_of ps)) (children (map branch_of ps) n)
  unfolding gathered
  spread_at n p inside is zero high =
      let e = children_is ps n ∙ kids_of ps n p inside is in
      ap (map entry_of) e ∙ sym (flat_map_single entry_of p.kids.items) ∙ same_flat (λ k. entry_of k ∷ []) (entries_below (map branch_of ps)) p.kids.items (λ i k l at. kid_held n i p k inside is l at high) ∙ ap (flat_map (entries_below (map branch_of ps))) (sym e)
  spread_at n p inside is (suc h) high =
      let e = children_is ps n ∙ kids_of ps n p inside is in
      ap (flat_map (λ k. gathered (map branch_of ps) h (target k.1))) e ∙ same_flat (λ k. gathered (map branch_of ps) h (target k.1)) (entries_below (map branch_of ps)) p.kids.items (λ i k l at. kid_list n i p k h inside is l at high) ∙ ap (flat_map (entries_below (map branch_of ps))) (sym e)

  -- the box for a node is the bounding box of its children
  least_below : (n i m : ℕ) (b : BoxOf) (p : TreeNode) → n < length ps → p ≡ get_or ps n p → i < length p.kids.items → (b, Node m) ≡ get_or p.kids.items i (b, Node m) → IsLeastOver b (children (map branch_of ps) m)
  least_below n i m b p inside is within at =
      let r = node_kid n i m b p inside is within at in
      let c = node_at ps m r.2 in
      let e = kids_of ps m c.0 r.2 c.1 in
      subst (IsLeastOver b) (sym (children_is ps m ∙ e)) (λ a all.
      let low = (sound_at ps m c.0 r.2 c.1 tree.sound).least (omega (arith, r.4, ap (λ (l : List Kid). length l) e)) a all in
      let same = tied_same root ps tree n r.0 i p (b, Node m) inside is r.1 within at c.0 r.2 c.1 (λ r. cond (contains a r.area) 1 0) in
      one_true (contains a b) (sym same ∙ ap {B = ℕ} (λ b. cond b 1 0) low))

  spreads : (depth n : ℕ) → StandsAtDepth (map branch_of ps) (Some root.node) depth n → IsSpread (map branch_of ps) n
  spreads depth n way =
      let o = reached_ok depth n way in
      let c = node_at ps n o.0 in
      let p = c.0 in
      let e = children_is ps n ∙ kids_of ps n p o.0 c.1 in
      let high = level_is ps n ∙ height_of ps n p o.0 c.1 in
      let sound = sound_at ps n p o.0 c.1 tree.sound in
      record {
        some = omega (arith, o.1, ap (λ (l : List Kid). length l) (children_is ps n));
        spread = spread_at n p o.0 c.1 (branch_height (map branch_of ps) n) (sym high);
        over = subst (All (λ k. All (λ e. contains k.0 e.0 ≡ true) (entries_below (map branch_of ps) k))) (sym e) (λ i d l.
            let k = get_or p.kids.items i d in
            let at = read_again p.kids.items i d l in
            kid_below k.0 (over_whole p.area k.0 sound.whole (sound.over i d l)) n i p k o.0 c.1 l at (over_self k.0));
        kind = subst (λ h. All (λ k. is_kind h k.1 ≡ true) (children (map branch_of ps) n)) (sym high) (subst (λ l. All (λ k. is_kind p.height k.1 ≡ true) l) (sym e) (kinds_at n p o.0 c.1));
        one_lower = λ i m b l at.
            let r = node_kid n i m b p o.0 c.1 (omega (arith, l, ap (λ (l : List Kid). length l) e)) (at ∙ ap (λ l. get_or l i (b, Node m)) e) in
            omega (arith, r.1, r.3, level_is ps m, high);
        least = λ i m b l at. least_below n i m b p o.0 c.1 (omega (arith, l, ap (λ (l : List Kid). length l) e)) (at ∙ ap (λ l. get_or l i (b, Node m)) e);
      }

  -- a node with children has an entry below it
  walk_some : (h n : ℕ) → n < length ps → height_at ps n ≡ h → 0 < length (kids_at ps n) → 1 ≤ walk_sum (λ _. true) 0 (λ _. 1) ps h n
  unfolding walk_sum
  walk_some zero n inside high live =
      let k = first_kid (kids_at ps n) live in
      omega (arith, get_or-le-sum_by {X = Kid} (λ _. 1) (kids_at ps n) 0 k.0 live)
  walk_some (suc h) n inside high live =
      let c = node_at ps n inside in
      let e = kids_of ps n c.0 inside c.1 in
      let same = sym (height_of ps n c.0 inside c.1) ∙ high in
      let k = first_kid (kids_at ps n) live in
      let at = k.1 ∙ ap (λ l. get_or l 0 k.0) e in
      let l : 0 < length c.0.kids.items = omega (arith, live, ap (λ (l : List Kid). length l) e) in
      let t = tied_height root ps tree n h 0 c.0 k.0 inside c.1 same l at in
      let a = alive root ps tree n h 0 c.0 k.0 inside c.1 same l at in
      let w : Kid → ℕ = λ k. walk_sum (λ _. true) 0 (λ _. 1) ps h (target k.1) in
      omega (arith, get_or-le-sum_by w (kids_at ps n) 0 k.0 live, ap w k.1, walk_some h (target k.0.1) t.0 t.1 a)

  pub some_entry : 0 < length (entries_list ps)
  some_entry = by_list (entries_list ps) (omega (arith, walk_some root.height root.node (root_there root ps tree) (root_height root ps tree) (root_alive root ps tree), walk_entries (λ _. true) (λ a b w o h. refl) (λ _. 1) root ps tree))
    where
      by_list : (es : List EntryOf) → 1 ≤ sum_by (λ _. 1) es → 0 < length es
      by_list [] h = absurd (omega (arith, h))
      by_list (e ∷ es) h = omega arith

none_reached : (bs : List Branch) (o : Option ℕ) (depth n : ℕ) → o ≡ None → StandsAtDepth bs o depth n → ⊥
none_reached bs o depth n e (is_root f) = absurd (none_some n (sym e ∙ f))
  where
    none_some : (n : ℕ) → ◌≡◌ {A = Option ℕ} None (Some n) → ⊥
    none_some n e = absurd (omega (arith, ap (λ (o : Option ℕ). from o) e))
      where
        from : Option ℕ → ℕ
        from None = 0
        from (Some n) = 1
none_reached bs o depth n e (is_child {depth = above} {n = up} way within at) = none_reached bs o above up e way

-- if a node is reached, the tree exists
pub reached_inside : (root : Ref) (ps : List TreeNode) → ((0 < length ps) → IsTree root ps) → (n : ℕ) → IsReachedNode (map branch_of ps) (root_number ps root.node) n → (n < length ps) × IsSpread (map branch_of ps) n
reached_inside root [] tree n way = absurd (none_reached [] None way.0 n refl way.1)
reached_inside root (p ∷ ps) tree n way = let t = tree (omega arith) in ((reached_ok root (p ∷ ps) t way.0 n way.1).0, spreads root (p ∷ ps) t way.0 n way.1)

-- all leaves of a tree have one depth, and without nodes there are none
pub leaves_level : (root : Ref) (ps : List TreeNode) → ((0 < length ps) → IsTree root ps) → HaveOneDepth (map branch_of ps) (root_number ps root.node)
leaves_level root [] tree = λ depth other n m way way_too leaf leaf_too. absurd (none_reached [] None depth n refl way)
leaves_level root (p ∷ ps) tree = one_depth root (p ∷ ps) (tree (omega arith))
