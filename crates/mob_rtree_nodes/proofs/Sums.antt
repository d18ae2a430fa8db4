-- Sums over the nodes of a tree.
use Rattle.std.{specs.Prelude.{All, sum_by}, proofs.Common.{◌≡◌, refl, ℕ, zero, ◌+◌, ◌<◌, ◌≤◌, cond, ◌==◌, List, [], ◌∷◌, length, get_or, map, arith, ap, sym, eq-eqb, suc, subst}}
use Rattle.std.{proofs.lemmas.Bool.{ne_eqb}, proofs.lemmas.List.Sums.{sum_by-cons}, proofs.lemmas.List.Elements.{All-head, All-tail}}
use Rattle.mob_rtree_nodes.{specs.Tree.{IsSoundNode, Kid, if_live, Ref, nodes_sum, kids_at, height_at}, specs.declared.node.TreeNode.{TreeNode}}

-- equal terms, if each element satisfies P
pub same_sums : {X : Type 0} (f g : X → ℕ) (P : X → Type 0) → ((x : X) → P x → f x ≡ g x) → (xs : List X) → All P xs → sum_by f xs ≡ sum_by g xs
same_sums f g P says [] all = refl
same_sums f g P says (x ∷ xs) all = omega (arith, sum_by-cons f x xs, sum_by-cons g x xs, says x (All-head P x xs all), same_sums f g P says xs (All-tail P x xs all))

pub zero_sum : {X : Type 0} (f : X → ℕ) (P : X → Type 0) → ((x : X) → P x → f x ≡ 0) → (xs : List X) → All P xs → sum_by f xs ≡ 0
zero_sum f P says [] all = refl
zero_sum f P says (x ∷ xs) all = omega (arith, sum_by-cons f x xs, says x (All-head P x xs all), zero_sum f P says xs (All-tail P x xs all))

pub joined_sums : {X : Type 0} (f g : X → ℕ) (xs : List X) → sum_by (λ x. f x + g x) xs ≡ sum_by f xs + sum_by g xs
joined_sums f g [] = refl
joined_sums f g (x ∷ xs) = omega (arith, sum_by-cons f x xs, sum_by-cons g x xs, sum_by-cons (λ x. f x + g x) x xs, joined_sums f g xs)

pub mapped_sum : {X Y : Type 0} (f : Y → ℕ) (g : X → Y) (xs : List X) → sum_by f (map g xs) ≡ sum_by (λ x. f (g x)) xs
mapped_sum f g [] = refl
mapped_sum f g (x ∷ xs) = omega (arith, sum_by-cons f (g x) (map g xs), sum_by-cons (λ x. f (g x)) x xs, mapped_sum f g xs)

pub live_zero : (kids : List Kid) → if_live kids 0 ≡ 0
live_zero [] = refl
live_zero (k ∷ kids) = refl

pub live_le : (kids : List Kid) (n : ℕ) → if_live kids n ≤ n
live_le [] n = omega arith
live_le (k ∷ kids) n = omega arith

pub live_some : (kids : List Kid) → 1 ≤ if_live kids 1 → 0 < length kids
live_some [] h = h
live_some (k ∷ kids) h = omega arith

pub live_is : (kids : List Kid) (n : ℕ) → 0 < length kids → if_live kids n ≡ n
live_is [] n h = absurd (omega (arith, h))
live_is (k ∷ kids) n h = refl

-- the sum over nodes, by their contents
pub nodes_by : (F : Ref → ℕ) (G : TreeNode → ℕ) (i : ℕ) (ps : List TreeNode) → ((k : ℕ) (p : TreeNode) → k < length ps → p ≡ get_or ps k p → F (record { area = p.area; node = i + k; height = p.height }) ≡ G p) → nodes_sum F i ps ≡ sum_by (λ p. if_live p.kids.items (G p)) ps
nodes_by F G i [] says = refl
nodes_by F G i (p ∷ ps) says =
    omega (arith, sum_by-cons (λ p. if_live p.kids.items (G p)) p ps, ap (if_live p.kids.items) first, nodes_by F G (i + 1) ps (λ k r h e. rest k r h e))
  where
    first : F (record { area = p.area; node = i; height = p.height }) ≡ G p
    first = let n : i ≡ i + 0 = omega arith in rw n (says 0 p (omega arith) refl)

    rest : (k : ℕ) (r : TreeNode) → k < length ps → r ≡ get_or ps k r → F (record { area = r.area; node = i + 1 + k; height = r.height }) ≡ G r
    rest k r h e = let n : i + 1 + k ≡ i + suc k = omega arith in rw n (says (suc k) r (omega arith) e)

pub nodes_from_zero : (F : Ref → ℕ) (G : TreeNode → ℕ) (ps : List TreeNode) → ((k : ℕ) (p : TreeNode) → k < length ps → p ≡ get_or ps k p → F (record { area = p.area; node = k; height = p.height }) ≡ G p) → nodes_sum F 0 ps ≡ sum_by (λ p. if_live p.kids.items (G p)) ps
nodes_from_zero F G ps says = nodes_by F G 0 ps (λ k p h is. let n : 0 + k ≡ k = omega arith in rw n (says k p h is))

-- no node has this number
pub nodes_past : (F : Ref → ℕ) (t i : ℕ) (ps : List TreeNode) → t < i → nodes_sum (λ r. cond (r.node == t) (F r) 0) i ps ≡ 0
nodes_past F t i [] h = refl
nodes_past F t i (p ∷ ps) h =
    let r : Ref = record { area = p.area; node = i; height = p.height } in
    let e = ap (λ b. if_live p.kids.items (cond b (F r) 0)) (ne_eqb i t (omega arith)) in
    omega (arith, e, live_zero p.kids.items, nodes_past F t (i + 1) ps (omega arith))

pub nodes_none : (F : Ref → ℕ) (t i : ℕ) (ps : List TreeNode) → i + length ps ≤ t → nodes_sum (λ r. cond (r.node == t) (F r) 0) i ps ≡ 0
nodes_none F t i [] h = refl
nodes_none F t i (p ∷ ps) h =
    let r : Ref = record { area = p.area; node = i; height = p.height } in
    let e = ap (λ b. if_live p.kids.items (cond b (F r) 0)) (ne_eqb i t (omega arith)) in
    omega (arith, e, live_zero p.kids.items, nodes_none F t (i + 1) ps (omega arith))

-- the single term of a number
pub nodes_one : (F : Ref → ℕ) (t i j : ℕ) (ps : List TreeNode) (p : TreeNode) → t ≡ i + j → j < length ps → p ≡ get_or ps j p → nodes_sum (λ r. cond (r.node == t) (F r) 0) i ps ≡ if_live p.kids.items (F (record { area = p.area; node = t; height = p.height }))
nodes_one F t i j [] p n h is = absurd (omega arith)
nodes_one F t i zero (q ∷ ps) p n h is =
    let e = ap (λ b. if_live q.kids.items (cond b (F (record { area = q.area; node = i; height = q.height })) 0)) (eq-eqb i t (omega arith)) in
    let m : i ≡ t = omega arith in
    let same = ap (λ (n : ℕ). if_live q.kids.items (F (record { area = q.area; node = n; height = q.height }))) m in
    let same2 = ap (λ (p : TreeNode). if_live p.kids.items (F (record { area = p.area; node = t; height = p.height }))) is in
    omega (arith, e, nodes_past F t (i + 1) ps (omega arith), same, same2)
nodes_one F t i (suc j) (q ∷ ps) p n h is =
    let e = ap (λ b. if_live q.kids.items (cond b (F (record { area = q.area; node = i; height = q.height })) 0)) (ne_eqb i t (omega arith)) in
    omega (arith, e, live_zero q.kids.items, nodes_one F t (i + 1) j ps p (omega arith) (omega arith) is)

-- the children of a node, by its place
pub kids_of : (ps : List TreeNode) (n : ℕ) (p : TreeNode) → n < length ps → p ≡ get_or ps n p → kids_at ps n ≡ p.kids.items
kids_of [] n p h is = absurd (omega arith)
kids_of (q ∷ ps) zero p h is = ap (λ (p : TreeNode). p.kids.items) (sym is)
kids_of (q ∷ ps) (suc n) p h is = kids_of ps n p (omega arith) is

pub height_of : (ps : List TreeNode) (n : ℕ) (p : TreeNode) → n < length ps → p ≡ get_or ps n p → height_at ps n ≡ p.height
height_of [] n p h is = absurd (omega arith)
height_of (q ∷ ps) zero p h is = ap (λ (p : TreeNode). p.height) (sym is)
height_of (q ∷ ps) (suc n) p h is = height_of ps n p (omega arith) is

-- each number has a node
pub node_at : (ps : List TreeNode) (n : ℕ) → n < length ps → (p : TreeNode) × (p ≡ get_or ps n p)
node_at [] n h = absurd (omega arith)
node_at (p ∷ ps) zero h = (p, refl)
node_at (p ∷ ps) (suc n) h = node_at ps n (omega arith)

-- each part is sound
pub sound_at : (ps : List TreeNode) (n : ℕ) (p : TreeNode) → n < length ps → p ≡ get_or ps n p → All IsSoundNode ps → IsSoundNode p
sound_at ps n p inside is all = subst IsSoundNode (sym is) (all n p inside)
