-- A walk down a tree meets each node and each entry once.
use Rattle.std.specs.Prelude.{All, sum_by, nat_le}
use Rattle.std.proofs.Common.{◌≡◌, refl, ℕ, zero, suc, ◌+◌, ◌<◌, ◌≤◌, Bool, true, false, cond, ◌&&◌, ◌==◌, List, [], ◌∷◌, length, get_or, arith, ap, sym, ◌∙◌, eq-eqb, inl, inr}
use Rattle.std.{proofs.lemmas.Bool.{cases_lt, true≢false, ne_eqb, cases_eq}, proofs.lemmas.Bool.Decides.{nat_tests}, proofs.lemmas.List.Sums.{sum_by-cons, get_or-le-sum_by}}
use Rattle.mob_stbox.specs.Boxes.{BoxOf, contains, is_whole}
use Rattle.mob_rtree_nodes.specs.Tree.{Kid, EntryOf, entry_of, target, if_live, Ref, IsTree, IsSoundNode, nodes_sum, kids_sum, refs_sum, kids_at, height_at, walk_sum, step_sum, GoesUp}
use Rattle.mob_rtree_nodes.specs.declared.node.TreeNode.{TreeNode}
use Rattle.mob_rtree_nodes.proofs.Sums.{same_sums, zero_sum, joined_sums, nodes_from_zero, nodes_none, nodes_one, kids_of, height_of, node_at, live_le, live_some}

pub self_is : (x n : ℕ) → cond (x == x) n 0 ≡ n
self_is x n = ap (λ b. cond b n 0) (eq-eqb x x refl)

-- a term of a reference in a node is within the sum
pub ref_term : (f : Ref → ℕ) (ps : List TreeNode) (n h i : ℕ) (p : TreeNode) (k : Kid) → n < length ps → p ≡ get_or ps n p → p.height ≡ suc h → i < length p.kids.items → k ≡ get_or p.kids.items i k
    → f (record { area = k.0; node = target k.1; height = h }) ≤ refs_sum f ps
ref_term f ps n h i p k inside is up within at =
    let w : TreeNode → ℕ = λ p. kids_sum f p.height p.kids.items in
    let a = get_or-le-sum_by w ps n p inside in
    let b = ap w is in
    let g : Kid → ℕ = λ k. f (record { area = k.0; node = target k.1; height = h }) in
    let d = get_or-le-sum_by g p.kids.items i k within in
    let e = ap g at in
    let u : kids_sum f p.height p.kids.items ≡ sum_by g p.kids.items = ap (λ h. kids_sum f h p.kids.items) up in
    omega (arith, a, b, d, e, u)

-- a reference in a node is to a node
pub refers : (root : Ref) (ps : List TreeNode) → IsTree root ps → (n h i : ℕ) (p : TreeNode) (k : Kid) → n < length ps → p ≡ get_or ps n p → p.height ≡ suc h → i < length p.kids.items → k ≡ get_or p.kids.items i k
    → (target k.1) < length ps
refers root ps tree n h i p k inside is up within at =
    let f : Ref → ℕ = λ r. cond (r.node == target k.1) 1 0 in
    let a = ref_term f ps n h i p k inside is up within at in
    let e = self_is (target k.1) 1 in
    let once = tree.once f in
    elim (cases_lt (target k.1) (length ps)) [ inl l ↦ l | inr m ↦ absurd (omega (arith, a, e, once, nodes_none (λ _. 1) (target k.1) 0 ps (omega arith))) ]

-- a node matches each reference to it
pub tied : (root : Ref) (ps : List TreeNode) → IsTree root ps → (n h i : ℕ) (p : TreeNode) (k : Kid) → n < length ps → p ≡ get_or ps n p → p.height ≡ suc h → i < length p.kids.items → k ≡ get_or p.kids.items i k
    → (c : TreeNode) → (target k.1) < length ps → c ≡ get_or ps (target k.1) c → (F : Ref → ℕ) → F (record { area = k.0; node = target k.1; height = h }) ≤ F (record { area = c.area; node = target k.1; height = c.height })
tied root ps tree n h i p k inside is up within at c there c-is F =
    let f : Ref → ℕ = λ r. cond (r.node == target k.1) (F r) 0 in
    let r : Ref = record { area = k.0; node = target k.1; height = h } in
    let a = ref_term f ps n h i p k inside is up within at in
    let e : cond (target k.1 == target k.1) (F r) 0 ≡ F r = ap (λ b. cond b (F r) 0) (eq-eqb (target k.1) (target k.1) refl) in
    omega (arith, a, e, tree.once f, nodes_one F (target k.1) 0 (target k.1) ps c (omega arith) there c-is, live_le c.kids.items (F (record { area = c.area; node = target k.1; height = c.height })))

pub one_same : (x y : ℕ) → 1 ≤ cond (x == y) 1 0 → x ≡ y
one_same x y h = grind (arith, nat_tests)

-- so two references agree for each number
pub tied_same : (root : Ref) (ps : List TreeNode) → IsTree root ps → (n h i : ℕ) (p : TreeNode) (k : Kid) → n < length ps → p ≡ get_or ps n p → p.height ≡ suc h → i < length p.kids.items → k ≡ get_or p.kids.items i k
    → (c : TreeNode) → (target k.1) < length ps → c ≡ get_or ps (target k.1) c → (F : Ref → ℕ) → F (record { area = c.area; node = target k.1; height = c.height }) ≡ F (record { area = k.0; node = target k.1; height = h })
tied_same root ps tree n h i p k inside is up within at c there c-is F =
    let r : Ref = record { area = k.0; node = target k.1; height = h } in
    let s : Ref = record { area = c.area; node = target k.1; height = c.height } in
    let a = tied root ps tree n h i p k inside is up within at c there c-is (λ x. cond (F x == F r) 1 0) in
    let e = self_is (F r) 1 in
    one_same (F s) (F r) (omega (arith, a, e))

pub tied_height : (root : Ref) (ps : List TreeNode) → IsTree root ps → (n h i : ℕ) (p : TreeNode) (k : Kid) → n < length ps → p ≡ get_or ps n p → p.height ≡ suc h → i < length p.kids.items → k ≡ get_or p.kids.items i k
    → ((target k.1) < length ps) × (height_at ps (target k.1) ≡ h)
tied_height root ps tree n h i p k inside is up within at =
    let there = refers root ps tree n h i p k inside is up within at in
    let c = node_at ps (target k.1) there in
    (there, height_of ps (target k.1) c.0 there c.1 ∙ tied_same root ps tree n h i p k inside is up within at c.0 there c.1 (λ r. r.height))

-- and it has children
pub alive : (root : Ref) (ps : List TreeNode) → IsTree root ps → (n h i : ℕ) (p : TreeNode) (k : Kid) → n < length ps → p ≡ get_or ps n p → p.height ≡ suc h → i < length p.kids.items → k ≡ get_or p.kids.items i k
    → 0 < length (kids_at ps (target k.1))
alive root ps tree n h i p k inside is up within at =
    let f : Ref → ℕ = λ r. cond (r.node == target k.1) 1 0 in
    let there = refers root ps tree n h i p k inside is up within at in
    let c = node_at ps (target k.1) there in
    let a = ref_term f ps n h i p k inside is up within at in
    let e = self_is (target k.1) 1 in
    let l = live_some c.0.kids.items (omega (arith, a, e, tree.once f, nodes_one (λ _. 1) (target k.1) 0 (target k.1) ps c.0 (omega arith) there c.1)) in
    omega (arith, l, ap (λ (l : List Kid). length l) (kids_of ps (target k.1) c.0 there c.1))

-- the sum of a walk over the nodes of height h whose boxes pass
abbrev pub level_of : (BoxOf → Bool) → (own : ℕ) → (g : EntryOf → ℕ) → List TreeNode → ℕ → Ref → ℕ
level_of test own g ps h r = cond (r.height == h && test r.area) (walk_sum test own g ps h r.node) 0

-- the same up to height h
abbrev pub own_upto : (BoxOf → Bool) → (own : ℕ) → ℕ → TreeNode → ℕ
own_upto test own h p = if_live p.kids.items (cond (nat_le p.height h && test p.area) own 0)

abbrev pub entries_of : (BoxOf → Bool) → (g : EntryOf → ℕ) → TreeNode → ℕ
entries_of test g p = cond (p.height == 0) (sum_by (λ k. cond (test k.0) (g (entry_of k)) 0) p.kids.items) 0

-- if a node does not pass, none of its children does
apart_one : (a b : BoxOf) (test : BoxOf → Bool) → GoesUp test → (w : ℕ) → is_whole a ≡ true → contains a b ≡ true → test a ≡ false → cond (test b) w 0 ≡ 0
apart_one a b test up w whole over none = by_test (test b) refl
  where
    by_test : (t : Bool) → test b ≡ t → cond t w 0 ≡ 0
    by_test false e = refl
    by_test true e = absurd (true≢false (sym (up a b whole over e) ∙ none))

apart_sum : (test : BoxOf → Bool) → GoesUp test → (w : Kid → ℕ) (p : TreeNode) → IsSoundNode p → test p.area ≡ false → sum_by (λ k. cond (test k.0) (w k) 0) p.kids.items ≡ 0
apart_sum test up w p sound none = zero_sum (λ k. cond (test k.0) (w k) 0) (λ k. contains p.area k.0 ≡ true) (λ k over. apart_one p.area k.0 test up (w k) sound.whole over none) p.kids.items sound.over

zero_cases : (ht : ℕ) (o : Bool) (own s : ℕ) → (o ≡ false → s ≡ 0) → cond (ht == 0 && o) (own + s) 0 ≡ cond (nat_le ht 0 && o) own 0 + cond (ht == 0) s 0
zero_cases ht true own s h = grind (arith, nat_tests)
zero_cases ht false own s h = let e = h refl in grind (arith, nat_tests)

pub cond_nil : (b : Bool) → ◌≡◌ {A = ℕ} (cond b 0 0) 0
cond_nil true = refl
cond_nil false = refl

level_zero : (test : BoxOf → Bool) → GoesUp test → (own : ℕ) (g : EntryOf → ℕ) (p : TreeNode) → IsSoundNode p → if_live p.kids.items (cond (p.height == 0 && test p.area) (own + sum_by (λ k. cond (test k.0) (g (entry_of k)) 0) p.kids.items) 0) ≡ own_upto test own 0 p + entries_of test g p
level_zero test up own g p sound = by_kids p.kids.items (apart_sum test up (λ k. g (entry_of k)) p sound)
  where
    by_kids : (kids : List Kid) → (test p.area ≡ false → sum_by (λ k. cond (test k.0) (g (entry_of k)) 0) kids ≡ 0)
        → if_live kids (cond (p.height == 0 && test p.area) (own + sum_by (λ k. cond (test k.0) (g (entry_of k)) 0) kids) 0) ≡ if_live kids (cond (nat_le p.height 0 && test p.area) own 0) + cond (p.height == 0) (sum_by (λ k. cond (test k.0) (g (entry_of k)) 0) kids) 0
    by_kids [] apart = omega (arith, cond_nil (p.height == 0))
    by_kids (k ∷ kids) apart = zero_cases p.height (test p.area) own (sum_by (λ k. cond (test k.0) (g (entry_of k)) 0) (k ∷ kids)) apart

more_cases : (h ht : ℕ) (o : Bool) (own s r : ℕ) → (o ≡ false → s ≡ 0) → (ht ≡ suc h → r ≡ s) → ((ht ≡ suc h → ⊥) → r ≡ 0) → cond (ht == suc h && o) (own + s) 0 + cond (nat_le ht h && o) own 0 ≡ cond (nat_le ht (suc h) && o) own 0 + r
more_cases h ht true own s r a b c = elim (cases_eq ht (suc h)) [ inl e ↦ let k = b e in grind (arith, nat_tests) | inr n ↦ let k = c n in grind (arith, nat_tests) ]
more_cases h ht false own s r a b c = let z = a refl in elim (cases_eq ht (suc h)) [ inl e ↦ let k = b e in grind (arith, nat_tests) | inr n ↦ let k = c n in grind (arith, nat_tests) ]

kids_level : (test : BoxOf → Bool) (own : ℕ) (g : EntryOf → ℕ) (ps : List TreeNode) (h ht : ℕ) (kids : List Kid) → ht ≡ suc h
    → kids_sum (level_of test own g ps h) ht kids ≡ sum_by (λ k. cond (test k.0) (walk_sum test own g ps h (target k.1)) 0) kids
kids_level test own g ps h zero kids e = absurd (omega arith)
kids_level test own g ps h (suc n) [] e = refl
kids_level test own g ps h (suc n) (k ∷ kids) e =
    let f : Kid → ℕ = λ k. level_of test own g ps h (record { area = k.0; node = target k.1; height = n }) in
    let w : Kid → ℕ = λ k. cond (test k.0) (walk_sum test own g ps h (target k.1)) 0 in
    let t = ap (λ b. cond (b && test k.0) (walk_sum test own g ps h (target k.1)) 0) (eq-eqb n h (omega arith)) in
    omega (arith, sum_by-cons f k kids, sum_by-cons w k kids, t, kids_level test own g ps h (suc n) kids e)

kids_apart : (test : BoxOf → Bool) (own : ℕ) (g : EntryOf → ℕ) (ps : List TreeNode) (h ht : ℕ) (kids : List Kid) → (ht ≡ suc h → ⊥) → kids_sum (level_of test own g ps h) ht kids ≡ 0
kids_apart test own g ps h zero kids d = refl
kids_apart test own g ps h (suc n) [] unlike = refl
kids_apart test own g ps h (suc n) (k ∷ kids) unlike =
    let f : Kid → ℕ = λ k. level_of test own g ps h (record { area = k.0; node = target k.1; height = n }) in
    let t = ap (λ b. cond (b && test k.0) (walk_sum test own g ps h (target k.1)) 0) (ne_eqb n h (λ e. unlike (ap suc e))) in
    omega (arith, sum_by-cons f k kids, t, kids_apart test own g ps h (suc n) kids unlike)

pub kids_nil : (F : Ref → ℕ) (h : ℕ) → kids_sum F h [] ≡ 0
kids_nil F zero = refl
kids_nil F (suc h) = refl

level_more : (test : BoxOf → Bool) → GoesUp test → (own : ℕ) (g : EntryOf → ℕ) (ps : List TreeNode) (h : ℕ) (p : TreeNode) → IsSoundNode p
    → if_live p.kids.items (cond (p.height == suc h && test p.area) (own + sum_by (λ k. cond (test k.0) (walk_sum test own g ps h (target k.1)) 0) p.kids.items) 0) + own_upto test own h p ≡ own_upto test own (suc h) p + kids_sum (level_of test own g ps h) p.height p.kids.items
level_more test up own g ps h p sound = by_kids p.kids.items (apart_sum test up (λ k. walk_sum test own g ps h (target k.1)) p sound)
  where
    by_kids : (kids : List Kid) → (test p.area ≡ false → sum_by (λ k. cond (test k.0) (walk_sum test own g ps h (target k.1)) 0) kids ≡ 0)
        → if_live kids (cond (p.height == suc h && test p.area) (own + sum_by (λ k. cond (test k.0) (walk_sum test own g ps h (target k.1)) 0) kids) 0) + if_live kids (cond (nat_le p.height h && test p.area) own 0) ≡ if_live kids (cond (nat_le p.height (suc h) && test p.area) own 0) + kids_sum (level_of test own g ps h) p.height kids
    by_kids [] apart = omega (arith, kids_nil (level_of test own g ps h) p.height)
    by_kids (k ∷ kids) apart = more_cases h p.height (test p.area) own _ _ apart (kids_level test own g ps h p.height (k ∷ kids)) (kids_apart test own g ps h p.height (k ∷ kids))

-- the walks from the nodes of a height, if each node below height t is referred to
level_walks : (test : BoxOf → Bool) → GoesUp test → (own : ℕ) (g : EntryOf → ℕ) (ps : List TreeNode) → All IsSoundNode ps → (t : ℕ) → ((h : ℕ) → h < t → refs_sum (level_of test own g ps h) ps ≡ nodes_sum (level_of test own g ps h) 0 ps)
    → (h : ℕ) → h ≤ t → nodes_sum (level_of test own g ps h) 0 ps ≡ sum_by (own_upto test own h) ps + sum_by (entries_of test g) ps
unfolding walk_sum
level_walks test up own g ps sound t once zero low =
    let G : TreeNode → ℕ = λ p. cond (p.height == 0 && test p.area) (own + sum_by (λ k. cond (test k.0) (g (entry_of k)) 0) p.kids.items) 0 in
    nodes_from_zero (level_of test own g ps zero) G ps (λ n p h is. ap (λ kids. cond (p.height == 0 && test p.area) (own + sum_by (λ k. cond (test k.0) (g (entry_of k)) 0) kids) 0) (kids_of ps n p h is))
    ∙ same_sums (λ p. if_live p.kids.items (G p)) (λ p. own_upto test own 0 p + entries_of test g p) IsSoundNode (λ p s. level_zero test up own g p s) ps sound
    ∙ joined_sums (own_upto test own 0) (entries_of test g) ps
level_walks test up own g ps sound t once (suc h) low =
    let w : Kid → ℕ = λ k. cond (test k.0) (walk_sum test own g ps h (target k.1)) 0 in
    let G : TreeNode → ℕ = λ p. cond (p.height == suc h && test p.area) (own + sum_by w p.kids.items) 0 in
    let L : TreeNode → ℕ = λ p. if_live p.kids.items (G p) in
    let R : TreeNode → ℕ = λ p. kids_sum (level_of test own g ps h) p.height p.kids.items in
    let a = nodes_from_zero (level_of test own g ps (suc h)) G ps (λ n p inside is. ap (λ kids. cond (p.height == suc h && test p.area) (own + sum_by w kids) 0) (kids_of ps n p inside is)) in
    let b = same_sums (λ p. L p + own_upto test own h p) (λ p. own_upto test own (suc h) p + R p) IsSoundNode (λ p s. level_more test up own g ps h p s) ps sound in
    omega (arith, a, b, joined_sums L (own_upto test own h) ps, joined_sums (own_upto test own (suc h)) R ps, once h (omega (arith, low)), level_walks test up own g ps sound t once h (omega (arith, low)))

-- nothing refers to the greatest height
pub top_free : (test : BoxOf → Bool) (own : ℕ) (g : EntryOf → ℕ) (ps : List TreeNode) (t : ℕ) → All (λ p. p.height ≤ t) ps → refs_sum (level_of test own g ps t) ps ≡ 0
top_free test own g ps t low = zero_sum (λ p. kids_sum (level_of test own g ps t) p.height p.kids.items) (λ p. p.height ≤ t) (λ p low. kids_apart test own g ps t p.height p.kids.items (λ e. absurd (omega arith))) ps low

-- the walk from the root
pub walk_all : (test : BoxOf → Bool) → GoesUp test → (own : ℕ) (g : EntryOf → ℕ) (root : Ref) (ps : List TreeNode) → IsTree root ps
    → cond (test root.area) (walk_sum test own g ps root.height root.node) 0 ≡ sum_by (own_upto test own root.height) ps + sum_by (entries_of test g) ps
walk_all test up own g root ps tree =
    let F = level_of test own g ps root.height in
    let t = ap (λ b. cond (b && test root.area) (walk_sum test own g ps root.height root.node) 0) (eq-eqb root.height root.height refl) in
    omega (arith, top_free test own g ps root.height tree.low, t, tree.once F, level_walks test up own g ps tree.sound root.height below root.height (omega arith))
  where
    below : (h : ℕ) → h < root.height → refs_sum (level_of test own g ps h) ps ≡ nodes_sum (level_of test own g ps h) 0 ps
    below h less =
        let none = ap (λ t. cond (t && test root.area) (walk_sum test own g ps h root.node) 0) (ne_eqb root.height h (omega (arith, less))) in
        omega (arith, none, tree.once (level_of test own g ps h))

-- if each node is referred to, there are none
pub all_dead : (g : EntryOf → ℕ) (ps : List TreeNode) (t : ℕ) → All IsSoundNode ps → All (λ p. p.height ≤ t) ps → ((f : Ref → ℕ) → refs_sum f ps ≡ nodes_sum f 0 ps) → sum_by (entries_of (λ _. true) g) ps ≡ 0
all_dead g ps t sound low once =
    omega (arith, top_free (λ _. true) 0 g ps t low, once (level_of (λ _. true) 0 g ps t), level_walks (λ _. true) (λ a b w o h. refl) 0 g ps sound t (λ h l. once (level_of (λ _. true) 0 g ps h)) t (omega arith))

-- a walk goes over the children of its node
pub walk_steps : (test : BoxOf → Bool) (own : ℕ) (g : EntryOf → ℕ) (ps : List TreeNode) (h n : ℕ) → walk_sum test own g ps h n ≡ own + sum_by (step_sum test own g ps h) (kids_at ps n)
unfolding walk_sum
walk_steps test own g ps zero n = refl
walk_steps test own g ps (suc h) n = refl
