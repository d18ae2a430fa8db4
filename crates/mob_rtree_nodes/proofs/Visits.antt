-- One child after another in a walk.
use Rattle.std.specs.Prelude.{sum_by}
use Rattle.std.proofs.Common.{◌≡◌, refl, ℕ, zero, suc, ◌+◌, ◌*◌, ◌<◌, ◌≤◌, Bool, true, false, cond, List, [], ◌∷◌, ◌++◌, length, get_or, take, arith, ap, sym, ◌∙◌, append_assoc, take_all, subst}
use Rattle.std.proofs.lemmas.List.Sums.{sum_by-cons, sum_by-append, sum_by_more, sum_by-take-le}
use Rattle.mob_stbox.specs.Boxes.{BoxOf}
use Rattle.mob_rtree_nodes.{specs.Tree.{Kid, EntryOf, entry_of, target, Ref, IsTree, height_at, walk_sum, step_sum}, specs.declared.node.TreeNode.{TreeNode}, proofs.Sums.{kids_of, height_of}}
use Rattle.mob_rtree_nodes.proofs.Walks.{tied_height, walk_steps}

-- a function of an id, as one of the entry
abbrev pub by_id : (ℕ → ℕ) → EntryOf → ℕ
by_id f e = f e.1

-- a child of an inner node is a node, one lower
pub down : (root : Ref) (ps : List TreeNode) → IsTree root ps → (n i : ℕ) (p : TreeNode) (kids : List Kid) (k : Kid) → n < length ps → p ≡ get_or ps n p → kids ≡ p.kids.items → i < length kids → k ≡ get_or kids i k → (p.height ≡ 0 → ⊥)
    → (target k.1 < length ps) × (height_at ps (target k.1) + 1 ≡ p.height) × (height_at ps n ≡ p.height)
down root ps tree n i p kids k inside is same within at up = by_height p.height refl
  where
    by_height : (h : ℕ) → p.height ≡ h → (target k.1 < length ps) × (height_at ps (target k.1) + 1 ≡ p.height) × (height_at ps n ≡ p.height)
    by_height zero e = absurd (up e)
    by_height (suc h) e =
        let l : i < length p.kids.items = omega (arith, ap length same) in
        let a = subst (λ xs. k ≡ get_or xs i k) same at in
        let t = tied_height root ps tree n h i p k inside is e l a in
        (t.0, omega (arith, t.1, e), height_of ps n p inside is)

pub step_leaf : (test : BoxOf → Bool) (own : ℕ) (g : EntryOf → ℕ) (ps : List TreeNode) (h : ℕ) (k : Kid) → h ≡ 0 → test k.0 ≡ true → step_sum test own g ps h k ≡ g (entry_of k)
step_leaf test own g ps zero k e o = ap (λ b. cond b (g (entry_of k)) 0) o
step_leaf test own g ps (suc h) k e o = absurd (omega arith)

pub step_skip : (test : BoxOf → Bool) (own : ℕ) (g : EntryOf → ℕ) (ps : List TreeNode) (h : ℕ) (k : Kid) → test k.0 ≡ false → step_sum test own g ps h k ≡ 0
step_skip test own g ps zero k o = ap (λ b. cond b (g (entry_of k)) 0) o
step_skip test own g ps (suc h) k o = ap (λ b. cond b (walk_sum test own g ps h (target k.1)) 0) o

pub step_down : (test : BoxOf → Bool) (own : ℕ) (g : EntryOf → ℕ) (ps : List TreeNode) (h m : ℕ) (k : Kid) → m + 1 ≡ h → test k.0 ≡ true → step_sum test own g ps h k ≡ walk_sum test own g ps m (target k.1)
step_down test own g ps zero m k e o = absurd (omega arith)
step_down test own g ps (suc h) m k e o =
    let n : h ≡ m = omega arith in
    ap (λ b. cond b (walk_sum test own g ps h (target k.1)) 0) o ∙ ap (λ h. walk_sum test own g ps h (target k.1)) n

-- what was found below the first i children
abbrev pub Found : (BoxOf → Bool) → List TreeNode → ℕ → List Kid → ℕ → (old now : List ℕ) → Type 0
Found test ps h kids i old now = (more : List ℕ) × (now ≡ old ++ more) × ((f : ℕ → ℕ) → sum_by f more ≡ sum_by (step_sum test 0 (by_id f) ps h) (take i kids))

module _ (test : BoxOf → Bool) (ps : List TreeNode) (h : ℕ) (kids : List Kid) (i : ℕ) (k : Kid) (is : k ≡ get_or kids i k) (within : i < length kids) (old now : List ℕ) where
  pub found_skip : Found test ps h kids i old now → test k.0 ≡ false → Found test ps h kids (i + 1) old now
  found_skip s o = (s.0, s.1, λ f. omega (arith, s.2 f, sum_by_more (step_sum test 0 (by_id f) ps h) kids i k within, ap (step_sum test 0 (by_id f) ps h) is, step_skip test 0 (by_id f) ps h k o))

  pub found_more : (later more : List ℕ) → Found test ps h kids i old now → later ≡ now ++ more → ((f : ℕ → ℕ) → sum_by f more ≡ step_sum test 0 (by_id f) ps h k) → Found test ps h kids (i + 1) old later
  found_more later more s e m =
      (s.0 ++ more, e ∙ ap (λ xs. xs ++ more) s.1 ∙ append_assoc old s.0 more, λ f. omega (arith, sum_by-append f s.0 more, s.2 f, sum_by_more (step_sum test 0 (by_id f) ps h) kids i k within, ap (step_sum test 0 (by_id f) ps h) is, m f))

  pub found_leaf : (later : List ℕ) → Found test ps h kids i old now → later ≡ now ++ target k.1 ∷ [] → h ≡ 0 → test k.0 ≡ true → Found test ps h kids (i + 1) old later
  found_leaf later s e z o = found_more later (target k.1 ∷ []) s e (λ f. omega (arith, step_leaf test 0 (by_id f) ps h k z o, sum_by-cons f (target k.1) []))

  pub found_down : (later : List ℕ) → Found test ps h kids i old now → height_at ps (target k.1) + 1 ≡ h → test k.0 ≡ true
      → ((more : List ℕ) × (later ≡ now ++ more) × ((g : ℕ → ℕ) → sum_by g more ≡ walk_sum test 0 (by_id g) ps (height_at ps (target k.1)) (target k.1))) → Found test ps h kids (i + 1) old later
  found_down later s e o m = found_more later m.0 s m.1 (λ f. m.2 f ∙ sym (step_down test 0 (by_id f) ps h (height_at ps (target k.1)) k e o))

  pub cost_more : (start before after : ℕ) → before ≤ start + i + 16 * sum_by (step_sum test 1 (λ _. 0) ps h) (take i kids) → after ≤ before + 1 + 16 * step_sum test 1 (λ _. 0) ps h k
      → after ≤ start + (i + 1) + 16 * sum_by (step_sum test 1 (λ _. 0) ps h) (take (i + 1) kids)
  cost_more start before after b a = omega (arith, sum_by_more (step_sum test 1 (λ _. 0) ps h) kids i k within, ap (step_sum test 1 (λ _. 0) ps h) is)

-- the whole walk below a node
pub found_all : (test : BoxOf → Bool) (ps : List TreeNode) (n i : ℕ) (p : TreeNode) (kids : List Kid) (old now : List ℕ) → n < length ps → p ≡ get_or ps n p → kids ≡ p.kids.items → length kids ≤ i → Found test ps p.height kids i old now
    → (more : List ℕ) × (now ≡ old ++ more) × ((f : ℕ → ℕ) → sum_by f more ≡ walk_sum test 0 (by_id f) ps (height_at ps n) n)
found_all test ps n i p kids old now inside is same long s = (
  s.0,
  s.1,
  λ f. s.2 f ∙ ap (sum_by (step_sum test 0 (by_id f) ps p.height)) (take_all i kids long ∙ same ∙ sym (kids_of ps n p inside is))
      ∙ omega (arith, walk_steps test 0 (by_id f) ps p.height n) ∙ ap (λ h. walk_sum test 0 (by_id f) ps h n) (sym (height_of ps n p inside is)),
)

pub cost_all : (test : BoxOf → Bool) (ps : List TreeNode) (n i : ℕ) (p : TreeNode) (kids : List Kid) (start steps : ℕ) → n < length ps → p ≡ get_or ps n p → kids ≡ p.kids.items → i ≤ 16 → steps ≤ start + i + 16 * sum_by (step_sum test 1 (λ _. 0) ps p.height) (take i kids)
    → steps ≤ start + 16 * walk_sum test 1 (λ _. 0) ps (height_at ps n) n
cost_all test ps n i p kids start steps inside is same few bound =
    let a = sum_by-take-le (step_sum test 1 (λ _. 0) ps p.height) kids i in
    let b = ap (sum_by (step_sum test 1 (λ _. 0) ps p.height)) (same ∙ sym (kids_of ps n p inside is)) in
    let e = ap (λ h. walk_sum test 1 (λ _. 0) ps h n) (height_of ps n p inside is) in
    omega (arith, a, b, walk_steps test 1 (λ _. 0) ps p.height n, e)
