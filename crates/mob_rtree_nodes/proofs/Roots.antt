-- The root, and the contents of the whole tree.
use Rattle.std.specs.Prelude.{MatchOption, All, sum_by, count_by, nat_le}
use Rattle.std.proofs.Common.{◌≡◌, refl, ℕ, suc, ◌+◌, ◌<◌, ◌≤◌, Bool, true, false, cond, not, ◌==◌, ◌&&◌, List, [], ◌∷◌, length, get_or, map, arith, ap, sym, ◌∙◌, subst, Some, None, eq-eqb, inl, inr}
use Rattle.std.{proofs.lemmas.Bool.{cases_lt, ne_eqb, and_parts}, proofs.lemmas.Bool.Decides.{nat_tests}, proofs.lemmas.List.Sums.{sum_by-cons, sum_by-append}, proofs.lemmas.List.Concat.{flat_map-cons}}
use Rattle.std.proofs.lemmas.List.Elements.{All-head, All-tail, All-cons, All-nil, All-weaker}
use Rattle.mob_stbox.{specs.Boxes.{BoxOf, overlaps, contains, cover, is_whole}, proofs.BoxLaws.{cover_whole, cover_over_left, cover_over_right, cover_least, over_self, over_overlaps}}
use Rattle.mob_rtree_nodes.specs.Tree.{areas_list, if_live_list, is_kind, GoesUp, Kid, EntryOf, entry_of, target, if_live, is_fit, Ref, IsTree, IsSoundNode, IsLeastOver, nodes_sum, kids_sum, refs_sum}
use Rattle.mob_rtree_nodes.{specs.Tree.{entries_sum, entries_list, kids_at, height_at, IsGrown, more_sum, IsPut, walk_sum, AreFound, IsAdded}, specs.declared.node.TreeNode.{TreeNode}}
use Rattle.mob_rtree_nodes.{specs.declared.node.Child.TheVariants.{Node}, specs.declared.insert.Grown.{Grown}}
use Rattle.mob_rtree_nodes.{proofs.Sums.{mapped_sum, live_le, live_some, live_is, live_zero, kids_of, height_of, node_at, nodes_none, nodes_one}}
use Rattle.mob_rtree_nodes.{proofs.Walks.{one_same, self_is, cond_nil, walk_all, own_upto, entries_of}, proofs.Inserts.{node_fit, put_in, put_all, ref_of, links_of, leaf_of}}

-- the root exists
pub root_there : (root : Ref) (ps : List TreeNode) → IsTree root ps → root.node < length ps
root_there root ps tree =
    let f : Ref → ℕ = λ r. cond (r.node == root.node) 1 0 in
    let e = self_is root.node 1 in
    elim (cases_lt root.node (length ps)) [ inl l ↦ l | inr m ↦ absurd (omega (arith, e, tree.once f, nodes_none (λ _. 1) root.node 0 ps (omega arith))) ]

pub root_same : (root : Ref) (ps : List TreeNode) → IsTree root ps → (c : TreeNode) → c ≡ get_or ps root.node c → (F : Ref → ℕ) → F (ref_of c root.node) ≡ F root
root_same root ps tree c is F =
    let s : Ref = ref_of c root.node in
    let G : Ref → ℕ = λ x. cond (F x == F root) 1 0 in
    let f : Ref → ℕ = λ r. cond (r.node == root.node) (G r) 0 in
    let e : cond (root.node == root.node) (G root) 0 ≡ G root = self_is root.node (G root) in
    let d = self_is (F root) 1 in
    one_same (F s) (F root) (omega (arith, e, d, tree.once f, nodes_one G root.node 0 root.node ps c (omega arith) (root_there root ps tree) is, live_le c.kids.items (G s)))

-- and it has children
pub root_alive : (root : Ref) (ps : List TreeNode) → IsTree root ps → 0 < length (kids_at ps root.node)
root_alive root ps tree =
    let c = node_at ps root.node (root_there root ps tree) in
    let f : Ref → ℕ = λ r. cond (r.node == root.node) 1 0 in
    let e = self_is root.node 1 in
    let l = live_some c.0.kids.items (omega (arith, e, tree.once f, nodes_one (λ _. 1) root.node 0 root.node ps c.0 (omega arith) (root_there root ps tree) c.1)) in
    omega (arith, l, ap (λ (l : List Kid). length l) (kids_of ps root.node c.0 (root_there root ps tree) c.1))

pub root_height : (root : Ref) (ps : List TreeNode) → IsTree root ps → height_at ps root.node ≡ root.height
root_height root ps tree =
    let c = node_at ps root.node (root_there root ps tree) in
    height_of ps root.node c.0 (root_there root ps tree) c.1 ∙ root_same root ps tree c.0 c.1 (λ r. r.height)

grown_once : (root : Ref) (old : List TreeNode) (tree : IsTree root old) (kid : Kid) (g : Grown) (new : List TreeNode) → IsGrown old root.node kid g new
    → (F : Ref → ℕ) → nodes_sum F 0 new ≡ refs_sum F new + (F (record { area = g.area; node = root.node; height = root.height }) + more_sum F root.height g.more)
grown_once root old tree kid g new by F =
    let c = node_at old root.node (root_there root old tree) in
    let e : c.0.height ≡ root.height = root_same root old tree c.0 c.1 (λ r. r.height) in
    omega (arith, by.once F c.0 c.1, root_same root old tree c.0 c.1 F, tree.once F, ap (λ h. F (record { area = g.area; node = root.node; height = h }) + more_sum F h g.more) e)

-- the root did not split
pub tree_none : (root : Ref) (old : List TreeNode) (tree : IsTree root old) (kid : Kid) (g : Grown) (new : List TreeNode) → IsGrown old root.node kid g new → g.more ≡ None
    → IsTree (record { area = g.area; node = root.node; height = root.height }) new
tree_none root old tree kid g new by none =
    record { once = λ F. omega (arith, grown_once root old tree kid g new by F, ap (more_sum F root.height) none); sound = by.sound; low = by.low root.height tree.low }

pub two_fit : (h : ℕ) (k m : Kid) → is_fit h k ≡ true → is_fit h m ≡ true → count_by (λ k. not (is_fit h k)) (k ∷ m ∷ []) ≡ 0
two_fit h k m a b =
    let w : Kid → ℕ = λ k. cond (not (is_fit h k)) 1 0 in
    let e = ap {B = ℕ} (λ b. cond (not b) 1 0) a in
    let f = ap {B = ℕ} (λ b. cond (not b) 1 0) b in
    omega (arith, sum_by-cons w k (m ∷ []), sum_by-cons w m [], e, f)

pub one_fit : (h : ℕ) (k : Kid) → is_fit h k ≡ true → count_by (λ k. not (is_fit h k)) (k ∷ []) ≡ 0
one_fit h k a =
    let w : Kid → ℕ = λ k. cond (not (is_fit h k)) 1 0 in
    let e = ap {B = ℕ} (λ b. cond (not b) 1 0) a in
    omega (arith, sum_by-cons w k [], e)

-- the root was split, and is below a new one
pub tree_some : (root : Ref) (old : List TreeNode) (tree : IsTree root old) (kid : Kid) (g : Grown) (new : List TreeNode) → IsGrown old root.node kid g new → (m : Kid) → g.more ≡ Some m
    → (r : TreeNode) → r.kids.items ≡ (g.area, Node root.node) ∷ m ∷ [] → r.height ≡ root.height + 1 → r.area ≡ cover g.area m.0
    → (number : ℕ) (after : List TreeNode) → IsPut new r number after → IsTree (record { area = r.area; node = number; height = root.height + 1 }) after
tree_some root old tree kid g new by m some r kids height area number after put =
    let live : 0 < length r.kids.items = omega (arith, ap (λ (l : List Kid). length l) kids) in
    let last = put_in new r number after live put in
    let k : Kid = (g.area, Node root.node) in
    let low_r : r.height ≤ root.height + 1 = omega (arith, height) in
    let m-fit : is_fit (root.height + 1) m ≡ true = ap (λ h. is_fit (h + 1) m) (sym (root_height root old tree)) ∙ subst (λ o. MatchOption o (0 ≤ 0) (λ k. is_fit (height_at old root.node + 1) k ≡ true)) some by.more in
    let m-whole : is_whole m.0 ≡ true = (and_parts (is_whole m.0) (is_kind (root.height + 1) m.1) m-fit).0 in
    record {
      once = λ F.
          let f : Kid → ℕ = λ k. F (record { area = k.0; node = target k.1; height = root.height }) in
          let a : links_of F r ≡ sum_by f (k ∷ m ∷ []) = ap (λ h. kids_sum F h r.kids.items) (height ∙ more_one root.height) ∙ ap (sum_by f) kids in
          omega (arith, grown_once root old tree kid g new by F, ap (more_sum F root.height) some, last.nodes F, last.refs F, a, sum_by-cons f k (m ∷ []), sum_by-cons f m [], ap (λ h. F (record { area = r.area; node = number; height = h })) height);
      sound = put_all IsSoundNode new r number after put by.sound (record {
        whole = ap is_whole area ∙ cover_whole g.area m.0 by.whole m-whole;
        least = λ live. subst (IsLeastOver r.area) (sym kids) (λ d all. ap (contains d) area ∙ cover_least g.area m.0 d (all 0 k (omega arith)) (all 1 k (omega arith)));
        fit = ap (λ (l : List Kid). count_by (λ k. not (is_fit r.height k)) l) kids ∙ two_fit r.height k m (ap (λ h. is_fit h k) height ∙ node_fit root.height root.node g.area by.whole) (ap (λ h. is_fit h m) height ∙ m-fit);
        over = subst (λ l. All (λ k. contains r.area k.0 ≡ true) l) (sym kids)
            (All-cons (λ k. contains r.area k.0 ≡ true) k (m ∷ []) (ap (λ a. contains a g.area) area ∙ cover_over_left g.area m.0) (All-cons (λ k. contains r.area k.0 ≡ true) m [] (ap (λ a. contains a m.0) area ∙ cover_over_right g.area m.0) (All-nil (λ k. contains r.area k.0 ≡ true))));
      });
      low = put_all (λ p. p.height ≤ root.height + 1) new r number after put (All-weaker (λ p. p.height ≤ root.height) (λ p. p.height ≤ root.height + 1) (λ p h. omega (arith, h)) new (by.low root.height tree.low)) low_r;
    }
  where
    more_one : (h : ℕ) → h + 1 ≡ suc h
    more_one h = omega arith

-- all entries, as a list and as a sum
pub entries_listed : (g : EntryOf → ℕ) (ps : List TreeNode) → sum_by g (entries_list ps) ≡ entries_sum g ps
entries_listed g [] = refl
entries_listed g (p ∷ ps) =
    let a = ap (sum_by g) (flat_map-cons (λ p. cond (p.height == 0) (map entry_of p.kids.items) []) p ps) in
    omega (arith, a, sum_by-append g (cond (p.height == 0) (map entry_of p.kids.items) []) (entries_list ps), sum_by-cons (leaf_of g) p ps, by_test (p.height == 0), entries_listed g ps)
  where
    by_test : (b : Bool) → sum_by g (cond b (map entry_of p.kids.items) []) ≡ cond b (sum_by (λ k. g (entry_of k)) p.kids.items) 0
    by_test true = mapped_sum g entry_of p.kids.items
    by_test false = refl

-- the entries that pass, as a walk sums them up
pub passed_sum : (test : BoxOf → Bool) (g : EntryOf → ℕ) (ps : List TreeNode) → sum_by (entries_of test g) ps ≡ sum_by (λ e. cond (test e.0) (g e) 0) (entries_list ps)
passed_sum test g ps = sym (entries_listed (λ e. cond (test e.0) (g e) 0) ps)

own_none : (test : BoxOf → Bool) (h : ℕ) (ps : List TreeNode) → sum_by (own_upto test 0 h) ps ≡ 0
own_none test h [] = refl
own_none test h (p ∷ ps) = omega (arith, sum_by-cons (own_upto test 0 h) p ps, ap (if_live p.kids.items) (cond_nil (nat_le p.height h && test p.area)), live_zero p.kids.items, own_none test h ps)

-- the sum over the entries of a walk from the root
pub walk_entries : (test : BoxOf → Bool) → GoesUp test → (g : EntryOf → ℕ) (root : Ref) (ps : List TreeNode) → IsTree root ps
    → cond (test root.area) (walk_sum test 0 g ps root.height root.node) 0 ≡ sum_by (λ e. cond (test e.0) (g e) 0) (entries_list ps)
walk_entries test up g root ps tree = omega (arith, walk_all test up 0 g root ps tree, own_none test root.height ps, passed_sum test g ps)

own_all : (q : BoxOf) (h : ℕ) (ps : List TreeNode) → All (λ p. p.height ≤ h) ps → sum_by (own_upto (λ b. overlaps b q) 1 h) ps ≡ count_by (λ b. overlaps b q) (areas_list ps)
own_all q h [] low = refl
own_all q h (p ∷ ps) low =
    let w : BoxOf → ℕ = λ b. cond (overlaps b q) 1 0 in
    let t = ap {B = ℕ} (λ b. if_live p.kids.items (cond (b && overlaps p.area q) 1 0)) (le-true p.height h (All-head (λ p. p.height ≤ h) p ps low)) in
    let a = ap (sum_by w) (flat_map-cons (λ p. if_live_list p.kids.items p.area) p ps) in
    omega (arith, sum_by-cons (own_upto (λ b. overlaps b q) 1 h) p ps, a, sum_by-append w (if_live_list p.kids.items p.area) (areas_list ps), t, listed p.kids.items w p.area, own_all q h ps (All-tail (λ p. p.height ≤ h) p ps low))
  where
    le-true : (m n : ℕ) → m ≤ n → nat_le m n ≡ true
    le-true m n h = grind (arith, nat_tests)

    listed : (kids : List Kid) (w : BoxOf → ℕ) (b : BoxOf) → sum_by w (if_live_list kids b) ≡ if_live kids (w b)
    listed [] w b = refl
    listed (k ∷ ks) w b = omega (arith, sum_by-cons w b [])

ids_of : (q : BoxOf) (id : ℕ) (es : List EntryOf) → sum_by (λ e. cond (overlaps e.0 q) (cond (e.1 == id) 1 0) 0) es ≡ count_by (λ e. overlaps e.0 q && (e.1 == id)) es
ids_of q id [] = refl
ids_of q id (e ∷ es) =
    let f : EntryOf → ℕ = λ e. cond (overlaps e.0 q) (cond (e.1 == id) 1 0) 0 in
    let g : EntryOf → ℕ = λ e. cond (overlaps e.0 q && (e.1 == id)) 1 0 in
    omega (arith, sum_by-cons f e es, sum_by-cons g e es, by_test (overlaps e.0 q) (e.1 == id), ids_of q id es)
  where
    by_test : (a b : Bool) → ◌≡◌ {A = ℕ} (cond a (cond b 1 0) 0) (cond (a && b) 1 0)
    by_test true b = refl
    by_test false b = refl

overlap_up : (q : BoxOf) → GoesUp (λ b. overlaps b q)
overlap_up q a b w o h = over_overlaps a b q w o h

-- the entries that a walk from the root finds
pub walk_finds : (q : BoxOf) (root : Ref) (ps : List TreeNode) → IsTree root ps → overlaps root.area q ≡ true → (more : List ℕ) → ((g : ℕ → ℕ) → sum_by g more ≡ walk_sum (λ b. overlaps b q) 0 (λ e. g e.1) ps (height_at ps root.node) root.node) → AreFound q (entries_list ps) more
walk_finds q root ps tree over more says id =
    let g : ℕ → ℕ = λ n. cond (n == id) 1 0 in
    let high = ap (λ h. walk_sum (λ b. overlaps b q) 0 (λ e. g e.1) ps h root.node) (root_height root ps tree) in
    let t = ap (λ b. cond b (walk_sum (λ b. overlaps b q) 0 (λ e. g e.1) ps root.height root.node) 0) over in
    omega (arith, says g, high, t, walk_entries (λ b. overlaps b q) (overlap_up q) (λ e. g e.1) root ps tree, ids_of q id (entries_list ps))

pub walk_misses : (q : BoxOf) (root : Ref) (ps : List TreeNode) → IsTree root ps → overlaps root.area q ≡ false → AreFound q (entries_list ps) []
walk_misses q root ps tree over id =
    let g : ℕ → ℕ = λ n. cond (n == id) 1 0 in
    let t = ap (λ b. cond b (walk_sum (λ b. overlaps b q) 0 (λ e. g e.1) ps root.height root.node) 0) over in
    omega (arith, t, walk_entries (λ b. overlaps b q) (overlap_up q) (λ e. g e.1) root ps tree, ids_of q id (entries_list ps))

-- how many nodes it meets
pub walk_meets : (q : BoxOf) (root : Ref) (ps : List TreeNode) → IsTree root ps → overlaps root.area q ≡ true → walk_sum (λ b. overlaps b q) 1 (λ _. 0) ps (height_at ps root.node) root.node ≡ count_by (λ b. overlaps b q) (areas_list ps)
walk_meets q root ps tree over =
    let high = ap (λ h. walk_sum (λ b. overlaps b q) 1 (λ _. 0) ps h root.node) (root_height root ps tree) in
    let t = ap (λ b. cond b (walk_sum (λ b. overlaps b q) 1 (λ _. 0) ps root.height root.node) 0) over in
    omega (arith, high, t, walk_all (λ b. overlaps b q) (overlap_up q) 1 (λ _. 0) root ps tree, own_all q root.height ps tree.low, nothing_found ps)
  where
    nothing_in : (kids : List Kid) → sum_by (λ k. cond (overlaps k.0 q) 0 0) kids ≡ 0
    nothing_in [] = refl
    nothing_in (k ∷ kids) = let f : Kid → ℕ = λ k. cond (overlaps k.0 q) 0 0 in omega (arith, sum_by-cons f k kids, cond_nil (overlaps k.0 q), nothing_in kids)

    nothing_found : (ps : List TreeNode) → sum_by (entries_of (λ b. overlaps b q) (λ _. 0)) ps ≡ 0
    nothing_found [] = refl
    nothing_found (p ∷ ps) = omega (arith, sum_by-cons (entries_of (λ b. overlaps b q) (λ _. 0)) p ps, ap (λ (n : ℕ). cond (p.height == 0) n 0) (nothing_in p.kids.items), cond_nil (p.height == 0), nothing_found ps)

-- the entries of a tree with one more
pub added : (old : List TreeNode) (n : ℕ) (kid : Kid) (g : Grown) (new : List TreeNode) → IsGrown old n kid g new → IsAdded (entries_list old) (entry_of kid) (entries_list new)
added old n kid g new by w = omega (arith, entries_listed w old, entries_listed w new, by.entries w)

pub added_root : (old new : List TreeNode) (kid : EntryOf) (r : TreeNode) (h : ℕ) → r.height ≡ h + 1 → 0 < length r.kids.items → IsAdded (entries_list old) kid (entries_list new)
    → (number : ℕ) (after : List TreeNode) → IsPut new r number after → IsAdded (entries_list old) kid (entries_list after)
added_root old new kid r h up live by number after put w =
    let z = ap (λ b. cond b (sum_by (λ k. w (entry_of k)) r.kids.items) 0) (ne_eqb r.height 0 (λ z. absurd (omega (arith, up, z)))) in
    let last = put_in new r number after live put in
    omega (arith, by w, entries_listed w new, entries_listed w after, last.entries w, z)

-- a tree of one leaf
pub tree_one : (kid : Kid) (r : TreeNode) → is_fit 0 kid ≡ true → r.kids.items ≡ kid ∷ [] → r.height ≡ 0 → r.area ≡ kid.0 → IsTree (record { area = kid.0; node = 0; height = 0 }) (r ∷ [])
tree_one kid r fit kids flat area =
    record {
      once = λ F. omega (arith, sum_by-cons (links_of F) r [], live_is r.kids.items (F (ref_of r 0)) (omega (arith, ap (λ (l : List Kid). length l) kids)), ap (λ h. kids_sum F h r.kids.items) flat, ap (λ a. F (record { area = a; node = 0; height = 0 })) area, ap (λ h. F (record { area = r.area; node = 0; height = h })) flat);
      sound = All-cons IsSoundNode r [] (record { whole = ap is_whole area ∙ (and_parts (is_whole kid.0) (is_kind 0 kid.1) fit).0; least = λ live. subst (IsLeastOver r.area) (sym kids) (λ d all. ap (contains d) area ∙ all 0 kid (omega arith)); fit = ap (λ (l : List Kid). count_by (λ k. not (is_fit r.height k)) l) kids ∙ one_fit r.height kid (ap (λ h. is_fit h kid) flat ∙ fit); over = subst (λ l. All (λ k. contains r.area k.0 ≡ true) l) (sym kids) (All-cons (λ k. contains r.area k.0 ≡ true) kid [] (ap (λ a. contains a kid.0) area ∙ over_self kid.0) (All-nil (λ k. contains r.area k.0 ≡ true))) }) (All-nil IsSoundNode);
      low = All-cons (λ p. p.height ≤ 0) r [] (omega (arith, flat)) (All-nil (λ p. p.height ≤ 0));
    }

pub added_one : (kid : Kid) (r : TreeNode) → r.kids.items ≡ kid ∷ [] → r.height ≡ 0 → IsAdded [] (entry_of kid) (entries_list (r ∷ []))
added_one kid r kids flat w =
    let z = ap (λ b. cond b (sum_by (λ k. w (entry_of k)) r.kids.items) 0) (eq-eqb r.height 0 flat) in
    omega (arith, entries_listed w (r ∷ []), sum_by-cons (leaf_of w) r [], z, ap (sum_by (λ k. w (entry_of k))) kids, sum_by-cons (λ k. w (entry_of k)) kid [])
