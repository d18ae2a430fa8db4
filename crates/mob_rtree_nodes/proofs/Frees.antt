-- The numbers of dropped nodes.
use Rattle.std.specs.Prelude.{sum_by}
use Rattle.std.proofs.Common.{◌≡◌, refl, ℕ, zero, suc, ◌+◌, ◌<◌, ◌≤◌, Bool, true, false, cond, ◌==◌, List, [], ◌∷◌, ◌++◌, length, get_or, set, take, arith, ap, sym, ◌∙◌, subst, eq-eqb, inl, inr}
use Rattle.std.{proofs.lemmas.Bool.{cases_lt}, proofs.lemmas.Bool.Decides.{nat_tests}, proofs.lemmas.List.{length-set, length-take-le, take_more}, proofs.lemmas.List.Sums.{sum_by-cons, sum_by-append}}
use Rattle.std.proofs.lemmas.List.Elements.{All-head, All-tail, All-set, All-append, All-cons, All-nil}
use Rattle.mob_rtree_nodes.{specs.Tree.{Kid, if_dropped, dropped_sum, IsFree, AreLive, IsReused, kids_at}, specs.declared.node.TreeNode.{TreeNode}, proofs.Sums.{kids_of, node_at}}

abbrev IsLive : TreeNode → Type 0
IsLive p = 0 < length p.kids.items

not_dropped : (kids : List Kid) (n : ℕ) → 0 < length kids → if_dropped kids n ≡ 0
not_dropped [] n h = absurd (omega (arith, h))
not_dropped (k ∷ ks) n h = refl

dropped_set : (f : ℕ → ℕ) (t i n : ℕ) (ps : List TreeNode) (p q : TreeNode) → t ≡ i + n → n < length ps → p ≡ get_or ps n p → dropped_sum f i (set ps n q) + if_dropped p.kids.items (f t) ≡ dropped_sum f i ps + if_dropped q.kids.items (f t)
dropped_set f t i n [] p q e h is = absurd (omega arith)
dropped_set f t i zero (r ∷ ps) p q e h is =
    let m : i ≡ t = omega arith in
    let a = ap (λ (n : ℕ). if_dropped r.kids.items (f n)) m in
    let b = ap (λ (n : ℕ). if_dropped q.kids.items (f n)) m in
    let same = ap (λ (p : TreeNode). if_dropped p.kids.items (f t)) is in
    omega (arith, a, b, same)
dropped_set f t i (suc n) (r ∷ ps) p q e h is = omega (arith, dropped_set f t (i + 1) n ps p q (omega arith) (omega arith) is)

dropped_append : (f : ℕ → ℕ) (i : ℕ) (ps qs : List TreeNode) → dropped_sum f i (ps ++ qs) ≡ dropped_sum f i ps + dropped_sum f (i + length ps) qs
dropped_append f i [] qs = let e : i ≡ i + 0 = omega arith in let m = ap (λ i. dropped_sum f i qs) e in omega (arith, m)
dropped_append f i (p ∷ ps) qs =
    let e : i + 1 + length ps ≡ i + suc (length ps) = omega arith in
    let m = ap (λ i. dropped_sum f i qs) e in
    omega (arith, dropped_append f (i + 1) ps qs, m)

-- a number in the sum is that of a dropped node
dropped_at : (t i : ℕ) (ps : List TreeNode) → 1 ≤ dropped_sum (λ n. cond (n == t) 1 0) i ps → (j : ℕ) × (t ≡ i + j) × (j < length ps) × (kids_at ps j ≡ [])
dropped_at t i [] h = absurd (omega (arith, h))
dropped_at t i (p ∷ ps) h = elim (cases_lt 0 (dropped_sum (λ n. cond (n == t) 1 0) (i + 1) ps)) [
  | inl l ↦ let r = dropped_at t (i + 1) ps l in (suc r.0, omega (arith, r.1), omega (arith, r.2), r.3)
  | inr m ↦ let r = here p.kids.items (i == t) (omega (arith, h, m)) in (0, omega (arith, same r.1), omega arith, r.0)
]
  where
    here : (kids : List Kid) (b : Bool) → 1 ≤ if_dropped kids (cond b 1 0) → (kids ≡ []) × (b ≡ true)
    here [] true h = (refl, refl)
    here [] false h = absurd (omega (arith, h))
    here (k ∷ ks) b h = absurd (omega (arith, h))

    same : (i == t) ≡ true → i ≡ t
    same e = grind (arith, nat_tests)

-- the last of the free numbers is that of a dropped node
pub popped : (free left : List ℕ) (m : ℕ) (ps : List TreeNode) → free ≡ left ++ m ∷ [] → IsFree free ps → (m < length ps) × (kids_at ps m ≡ [])
popped free left m ps e by =
    let f : ℕ → ℕ = λ n. cond (n == m) 1 0 in
    let t = ap {B = ℕ} (λ b. cond b 1 0) (eq-eqb m m refl) in
    let r = dropped_at m 0 ps (omega (arith, ap (sum_by f) e, sum_by-append f left (m ∷ []), sum_by-cons f m [], t, by f)) in
    let j : r.0 ≡ m = omega (arith, r.1) in
    (omega (arith, r.2, j), ap (kids_at ps) (sym j) ∙ r.3)

-- when a node with children takes its place, the other numbers are left
pub free_over : (free left : List ℕ) (m : ℕ) (ps : List TreeNode) (r : TreeNode) → free ≡ left ++ m ∷ [] → IsFree free ps → IsLive r → IsFree left (set ps m r)
free_over free left m ps r e by live f =
    let o = popped free left m ps e by in
    let p = node_at ps m o.0 in
    let kids : p.0.kids.items ≡ [] = sym (kids_of ps m p.0 o.0 p.1) ∙ o.1 in
    omega (
      arith,
      by f,
      ap (sum_by f) e,
      sum_by-append f left (m ∷ []),
      sum_by-cons f m [],
      dropped_set f m 0 m ps p.0 r (omega arith) o.0 p.1,
      ap (λ l. if_dropped l (f m)) kids,
      not_dropped r.kids.items (f m) live,
    )

pub free_behind : (free : List ℕ) (ps : List TreeNode) (r : TreeNode) → IsFree free ps → IsLive r → IsFree free (ps ++ r ∷ [])
free_behind free ps r by live f = omega (arith, by f, dropped_append f 0 ps (r ∷ []), not_dropped r.kids.items (f (0 + length ps)) live)

-- a node that still has children, or no longer has any
pub free_set : (free : List ℕ) (ps : List TreeNode) (n : ℕ) (p q : TreeNode) → n < length ps → p ≡ get_or ps n p → IsLive p → IsLive q → IsFree free ps → IsFree free (set ps n q)
free_set free ps n p q inside is p-live q-live by f = omega (arith, by f, dropped_set f n 0 n ps p q (omega arith) inside is, not_dropped p.kids.items (f n) p-live, not_dropped q.kids.items (f n) q-live)

pub free_drop : (free now : List ℕ) (ps : List TreeNode) (n : ℕ) (p q : TreeNode) → n < length ps → p ≡ get_or ps n p → IsLive p → q.kids.items ≡ [] → now ≡ free ++ n ∷ [] → IsFree free ps → IsFree now (set ps n q)
free_drop free now ps n p q inside is p-live dead e by f =
    omega (
      arith,
      by f,
      ap (sum_by f) e,
      sum_by-append f free (n ∷ []),
      sum_by-cons f n [],
      dropped_set f n 0 n ps p q (omega arith) inside is,
      not_dropped p.kids.items (f n) p-live,
      ap (λ l. if_dropped l (f n)) dead,
    )

ones : (xs : List ℕ) → sum_by (λ _. 1) xs ≡ length xs
ones [] = refl
ones (x ∷ xs) = omega (arith, sum_by-cons (λ _. 1) x xs, ones xs)

dropped_one : (kids : List Kid) → if_dropped kids 1 ≤ 1
dropped_one [] = omega arith
dropped_one (k ∷ ks) = omega arith

dropped_le : (i : ℕ) (ps : List TreeNode) → dropped_sum (λ _. 1) i ps ≤ length ps
dropped_le i [] = omega arith
dropped_le i (p ∷ ps) = omega (arith, dropped_one p.kids.items, dropped_le (i + 1) ps)

dropped_few : (i n : ℕ) (ps : List TreeNode) (p : TreeNode) → n < length ps → p ≡ get_or ps n p → IsLive p → dropped_sum (λ _. 1) i ps < length ps
dropped_few i n [] p h is live = absurd (omega arith)
dropped_few i zero (q ∷ ps) p h is live = omega (arith, ap (λ (p : TreeNode). if_dropped p.kids.items 1) is, not_dropped p.kids.items 1 live, dropped_le (i + 1) ps)
dropped_few i (suc n) (q ∷ ps) p h is live = omega (arith, dropped_one q.kids.items, dropped_few (i + 1) n ps p (omega (arith, h)) is live)

-- if a node has children, there are fewer free numbers than nodes
pub free_few : (free : List ℕ) (ps : List TreeNode) (n : ℕ) (p : TreeNode) → n < length ps → p ≡ get_or ps n p → IsLive p → IsFree free ps → length free < length ps
free_few free ps n p inside is live by = omega (arith, ones free, by (λ _. 1), dropped_few 0 n ps p inside is live)

all_live : (i : ℕ) (ps : List TreeNode) → dropped_sum (λ _. 1) i ps ≡ 0 → AreLive ps
all_live i [] h = All-nil IsLive
all_live i (p ∷ ps) h = All-cons IsLive p ps (some p.kids.items (omega (arith, h))) (all_live (i + 1) ps (omega (arith, h)))
  where
    some : (kids : List Kid) → if_dropped kids 1 ≡ 0 → 0 < length kids
    some [] h = absurd (omega (arith, h))
    some (k ∷ ks) h = omega arith

-- if no number is free, each node has children, and the reverse
pub live_of_free : (free : List ℕ) (ps : List TreeNode) → length free ≡ 0 → IsFree free ps → AreLive ps
live_of_free free ps none by = all_live 0 ps (omega (arith, by (λ _. 1), ones free, none))

none_dropped : (f : ℕ → ℕ) (i : ℕ) (ps : List TreeNode) → AreLive ps → dropped_sum f i ps ≡ 0
none_dropped f i [] live = refl
none_dropped f i (p ∷ ps) live = omega (arith, not_dropped p.kids.items (f i) (All-head IsLive p ps live), none_dropped f (i + 1) ps (All-tail IsLive p ps live))

pub free_none : (ps : List TreeNode) → AreLive ps → IsFree [] ps
free_none ps live f = sym (none_dropped f 0 ps live)

-- if there were no nodes, no number is free
pub free_first : (free : List ℕ) (ps new : List TreeNode) → length ps ≡ 0 → IsFree free ps → AreLive new → IsFree free new
free_first free ps new none by live = subst (λ l. IsFree l new) (sym (nil free (omega (arith, ones free, by (λ _. 1), dropped_le 0 ps, none)))) (free_none new live)
  where
    nil : (xs : List ℕ) → length xs ≡ 0 → xs ≡ []
    nil [] h = refl
    nil (x ∷ xs) h = absurd (omega (arith, h))

-- reuse of nodes is transitive
pub reused_trans : (a b c : List TreeNode) → IsReused a b → IsReused b c → IsReused a c
reused_trans a b c x y = record { same = elim x.same [ inl e ↦ elim y.same [ inl f ↦ inl (f ∙ e) | inr l ↦ inr l ] | inr l ↦ inr (y.live l) ]; live = λ l. y.live (x.live l) }

pub reused_set : (ps : List TreeNode) (n : ℕ) (q : TreeNode) → IsLive q → IsReused ps (set ps n q)
reused_set ps n q live = record { same = inl (length-set ps n q); live = λ l. All-set IsLive ps n q live l }

pub reused_behind : (ps : List TreeNode) (r : TreeNode) → IsLive r → AreLive ps → IsReused ps (ps ++ r ∷ [])
reused_behind ps r one live = record { same = inr (behind live); live = behind }
  where
    behind : AreLive ps → AreLive (ps ++ r ∷ [])
    behind l = All-append IsLive ps (r ∷ []) l (All-cons IsLive r [] one (All-nil IsLive))

-- ---- the numbers of dropped nodes, from the first on

pub dropped_more : (f : ℕ → ℕ) (ps : List TreeNode) (i : ℕ) → i < length ps → dropped_sum f 0 (take (i + 1) ps) ≡ dropped_sum f 0 (take i ps) + if_dropped (kids_at ps i) (f i)
dropped_more f ps i lt =
    let p = node_at ps i lt in
    let long : 0 + length (take i ps) ≡ i = omega (arith, length-take-le i ps (omega (arith, lt))) in
    omega (
      arith,
      ap (dropped_sum f 0) (take_more ps i p.0 lt),
      dropped_append f 0 (take i ps) (get_or ps i p.0 ∷ []),
      ap (λ (p : TreeNode). if_dropped p.kids.items (f (0 + length (take i ps)))) (sym p.1),
      ap (λ (n : ℕ). if_dropped p.0.kids.items (f n)) long,
      ap (λ (l : List Kid). if_dropped l (f i)) (kids_of ps i p.0 lt p.1),
    )

pub one_freed : (f : ℕ → ℕ) (kids : List Kid) (n : ℕ) (free new : List ℕ) → length kids ≡ 0 → new ≡ free ++ n ∷ [] → sum_by f new ≡ sum_by f free + if_dropped kids (f n)
one_freed f [] n free new none e = omega (arith, ap (sum_by f) e, sum_by-append f free (n ∷ []), sum_by-cons f n [])
one_freed f (k ∷ kids) n free new none e = absurd (omega (arith, none))

pub none_freed : (f : ℕ → ℕ) (kids : List Kid) (n : ℕ) (free : List ℕ) → 0 < length kids → sum_by f free ≡ sum_by f free + if_dropped kids (f n)
none_freed f kids n free live = omega (arith, not_dropped kids (f n) live)
