-- How sums over a tree change when an entry is removed.
use Rattle.std.{specs.Prelude.{All, sum_by, count_by}, specs.List.{remove}}
use Rattle.std.proofs.Common.{◌≡◌, refl, ℕ, zero, suc, ◌+◌, ◌<◌, ◌≤◌, Bool, true, false, cond, ◌==◌, ◌&&◌, List, [], ◌∷◌, length, get_or, set, take, arith, ap, sym, ◌∙◌, subst, eq-eqb, take_all}
use Rattle.std.{proofs.lemmas.Bool.{and_from, and_parts, eqb-true}, proofs.lemmas.List.{length-set, get_or-set_other}}
use Rattle.std.{proofs.lemmas.List.Sums.{sum_by-cons, sum_by-set, sum_by-remove, sum_by_more, get_or-le-sum_by}, proofs.lemmas.List.Elements.{All-set}}
use Rattle.mob_stbox.{specs.Boxes.{BoxOf, contains, is_whole, same_box}, specs.SameBoxes.{same_self, same_is}, proofs.BoxLaws.{over_self, over_trans}}
use Rattle.mob_rtree_nodes.specs.Tree.{Kid, EntryOf, entry_of, target, if_live, Ref, IsTree, IsSoundNode, IsReplaced, nodes_sum, kids_sum, refs_sum, entries_sum, entries_list, kids_at, height_at}
use Rattle.mob_rtree_nodes.specs.Tree.{walk_sum, step_sum, GoesUp}
use Rattle.mob_rtree_nodes.{specs.Removes.{is_entry, hit, is_whole_left, kid_left, node_left, IsNodeLeft, IsSettled, IsSettledAt, IsShrunk, IsRemoved, IsTakenOut}, specs.Builds.{leaf_sum}}
use Rattle.mob_rtree_nodes.{specs.declared.node.TreeNode.{TreeNode}, specs.declared.remove.Removed.{Removed}, specs.declared.remove.Removed.TheVariants.{Missing, Narrowed, Emptied}}
use Rattle.mob_rtree_nodes.{proofs.Sums.{kids_of, height_of, node_at, live_is}, proofs.Walks.{tied_same, tied_height, walk_steps, all_dead, entries_of}}
use Rattle.mob_rtree_nodes.proofs.Inserts.{Lower, lower, ref_of, live_of, links_of, leaf_of, nodes_set, low_one, inner_leaf, same_read}
use Rattle.mob_rtree_nodes.proofs.Roots.{root_there, root_same, entries_listed, walk_entries, passed_sum}

-- each place has an element
pub at_place : {X : Type 0} (xs : List X) (n : ℕ) → n < length xs → (x : X) × (x ≡ get_or xs n x)
at_place [] n h = absurd (omega arith)
at_place (x ∷ xs) zero h = (x, refl)
at_place (x ∷ xs) (suc n) h = at_place xs n (omega arith)

pub hit_self : (e : EntryOf) → hit e e ≡ 1
hit_self e = ap {B = ℕ} (λ b. cond b 1 0) (and_from (same_box e.0 e.0) (e.1 == e.1) (same_self e.0) (eq-eqb e.1 e.1 refl))

pub settled_narrow : (p part : TreeNode) (i : ℕ) (b : BoxOf) → i < length p.kids.items → IsReplaced p i b part → IsSettled p i (Narrowed b) (Narrowed part.area) part
settled_narrow p part i b within by =
    record {
      height = by.height;
      sound = by.sound;
      kids = λ f k at. omega (arith, ap (sum_by f) (made k at), sum_by-set f p.kids.items i (b, k.1) k within, ap f at);
      told = (refl, let e = at_place p.kids.items i within in omega (arith, within, ap (λ (l : List Kid). length l) (made e.0 e.1), length-set p.kids.items i (b, e.0.1)));
    }
  where
    made : (k : Kid) → k ≡ get_or p.kids.items i k → part.kids.items ≡ set p.kids.items i (b, k.1)
    made k at = by.kids k ∙ ap (λ (k : Kid). set p.kids.items i (b, k.1)) (sym at)

pub kids_without : (p part : TreeNode) (i : ℕ) → i < length p.kids.items → part.kids.items ≡ remove p.kids.items i → (f : Kid → ℕ) (k : Kid) → k ≡ get_or p.kids.items i k → sum_by f part.kids.items + f k ≡ sum_by f p.kids.items + 0
kids_without p part i within made f k at = omega (arith, ap (sum_by f) made, sum_by-remove f p.kids.items i k within, ap f at)

-- the change of a node, in sums
told_sum : (F : Ref → ℕ) (n h : ℕ) (part : TreeNode) → part.height ≡ h → (r : Removed) → IsNodeLeft part r → live_of F n part ≡ node_left F n h r
told_sum F n h part same Missing t = absurd t
told_sum F n h part same (Narrowed b) t = live_is part.kids.items (F (ref_of part n)) t.1 ∙ ap (λ a. F (record { area = a; node = n; height = part.height })) (sym t.0) ∙ ap (λ h. F (record { area = b; node = n; height = h })) same
told_sum F n h part same Emptied t = ap (λ l. if_live l (F (ref_of part n))) t

told_whole : (part : TreeNode) → IsSoundNode part → (r : Removed) → IsNodeLeft part r → is_whole_left r ≡ true
told_whole part sound Missing t = absurd t
told_whole part sound (Narrowed b) t = ap is_whole t.0 ∙ sound.whole
told_whole part sound Emptied t = refl

pub told_removed : (part : TreeNode) (old : List TreeNode) (n : ℕ) (e : EntryOf) (new : List TreeNode) (r : Removed) → IsNodeLeft part r → IsShrunk old n e r new → IsRemoved old n e r new
told_removed part old n e new Missing t s = absurd t
told_removed part old n e new (Narrowed b) t s = s
told_removed part old n e new Emptied t s = s

left_same : (F : Ref → ℕ) (h : ℕ) (k : Kid) (r : Removed) → kid_left (λ k. F (record { area = k.0; node = target k.1; height = h })) k r ≡ node_left F (target k.1) h r
left_same F h k Missing = refl
left_same F h k (Narrowed b) = refl
left_same F h k Emptied = refl

abbrev Balance : (Ref → ℕ) → List TreeNode → ℕ → Removed → List TreeNode → TreeNode → Type 0
Balance F old n r new p = nodes_sum F 0 new + (refs_sum F old + F (ref_of p n)) ≡ nodes_sum F 0 old + (refs_sum F new + node_left F n p.height r)

-- an entry is removed from a leaf
pub shrunk_leaf : (old : List TreeNode) (n i : ℕ) (p part : TreeNode) (k : Kid) (e : EntryOf) (r : Removed) → n < length old → p ≡ get_or old n p → i < length p.kids.items → k ≡ get_or p.kids.items i k → p.height ≡ 0 → All IsSoundNode old → entry_of k ≡ e → IsSettled p i Emptied r part
    → IsShrunk old n e r (set old n part)
shrunk_leaf old n i p part k e r inside is within at leaf sound same by =
    record {
      once = λ F q q-is. subst (Balance F old n r (set old n part)) (same_read old n p q inside is q-is)
          (omega (arith, nodes_set F n 0 n old p part (omega arith) inside is, live_is p.kids.items (F (ref_of p n)) (omega (arith, within)), told_sum F n p.height part by.height r by.told, sum_by-set (links_of F) old n part p inside, ap (links_of F) is, ap (λ h. kids_sum F h p.kids.items) leaf, ap (λ h. kids_sum F h part.kids.items) (by.height ∙ leaf)));
      entries = λ g. omega (arith, sum_by-set (leaf_of g) old n part p inside, ap (leaf_of g) is, ap (leaf_sum g p.kids.items) leaf, ap (leaf_sum g part.kids.items) (by.height ∙ leaf), by.kids (λ k. g (entry_of k)) k at, ap g same);
      sound = All-set IsSoundNode old n part by.sound sound;
      low = λ m all. All-set (λ p. p.height ≤ m) old n part (low_one m n old p part inside is by.height all) all;
      above = λ j q h' above q-is. q-is ∙ sym (get_or-set_other old n j part q (λ j-n. absurd (omega (arith, above, height_of old n p inside is, height_of old j q h' q-is, ap (height_at old) j-n))));
      size = length-set old n part;
      whole = told_whole part by.sound r by.told;
    }

module _ (root : Ref) (old : List TreeNode) (tree : IsTree root old) (n h i : ℕ) (p : TreeNode) (k : Kid) (inside : n < length old) (is : p ≡ get_or old n p) (up : p.height ≡ suc h) (within : i < length p.kids.items) (at : k ≡ get_or p.kids.items i k)
    (e : EntryOf) (r1 : Removed) (ps1 : List TreeNode) (below : IsShrunk old (target k.1) e r1 ps1) where
  there : (target k.1 < length old) × (height_at old (target k.1) ≡ h)
  there = tied_height root old tree n h i p k inside is up within at

  pub inside_left : n < length ps1
  inside_left = omega (arith, below.size, inside)

  pub kept_left : p ≡ get_or ps1 n p
  kept_left = below.above n p inside (omega (arith, there.1, up)) is

  once_below : (F : Ref → ℕ) → nodes_sum F 0 ps1 + (refs_sum F old + F (record { area = k.0; node = target k.1; height = h })) ≡ nodes_sum F 0 old + (refs_sum F ps1 + node_left F (target k.1) h r1)
  once_below F =
      let c = node_at old (target k.1) there.0 in
      let c-h : c.0.height ≡ h = sym (height_of old (target k.1) c.0 there.0 c.1) ∙ there.1 in
      let t = tied_same root old tree n h i p k inside is up within at c.0 there.0 c.1 F in
      omega (arith, below.once F c.0 c.1, t, ap (λ h. node_left F (target k.1) h r1) c-h)

  -- an entry is removed below the child at slot i
  pub shrunk_inner : (part : TreeNode) (r : Removed) → IsSettled p i r1 r part → IsShrunk old n e r (set ps1 n part)
  shrunk_inner part r by =
      record {
        once = λ F q q-is. subst (Balance F old n r (set ps1 n part)) (same_read old n p q inside is q-is)
            (let f : Kid → ℕ = λ k. F (record { area = k.0; node = target k.1; height = h }) in
            omega (
              arith,
              once_below F,
              nodes_set F n 0 n ps1 p part (omega arith) inside_left kept_left,
              live_is p.kids.items (F (ref_of p n)) (omega (arith, within)),
              told_sum F n p.height part by.height r by.told,
              sum_by-set (links_of F) ps1 n part p inside_left,
              ap (links_of F) kept_left,
              ap (λ h. kids_sum F h p.kids.items) up,
              ap (λ h. kids_sum F h part.kids.items) (by.height ∙ up),
              by.kids f k at,
              left_same F h k r1,
            ));
        entries = λ g. omega (arith, sum_by-set (leaf_of g) ps1 n part p inside_left, ap (leaf_of g) kept_left, inner_leaf g part.kids.items h part.height (by.height ∙ up), inner_leaf g p.kids.items h p.height up, below.entries g);
        sound = All-set IsSoundNode ps1 n part by.sound below.sound;
        low = λ m all. All-set (λ p. p.height ≤ m) ps1 n part (low_one m n ps1 p part inside_left kept_left by.height (below.low m all)) (below.low m all);
        above = λ j q h' above q-is.
            below.above j q h' (omega (arith, above, height_of old n p inside is, up, there.1)) q-is
            ∙ sym (get_or-set_other ps1 n j part q (λ j-n. absurd (omega (arith, above, height_of old n p inside is, height_of old j q h' q-is, ap (height_at old) j-n))));
        size = omega (arith, below.size, length-set ps1 n part);
        whole = told_whole part by.sound r by.told;
      }

-- an entry that is not a child of a leaf
hits_none : (test : BoxOf → Bool) (e : EntryOf) (ps : List TreeNode) (kids : List Kid) → count_by (is_entry e.0 e.1) kids ≡ 0 → sum_by (step_sum test 0 (hit e) ps 0) kids ≡ 0
hits_none test e ps [] none = refl
hits_none test e ps (k ∷ kids) none =
    let w : Kid → ℕ = λ k. cond (is_entry e.0 e.1 k) 1 0 in
    let c = sum_by-cons w k kids in
    omega (arith, c, none, sum_by-cons (step_sum test 0 (hit e) ps 0) k kids, hits_none test e ps kids (omega (arith, c, none)), less (test k.0) (hit e (entry_of k)))
  where
    less : (t : Bool) (n : ℕ) → cond t n 0 ≤ n
    less true n = omega arith
    less false n = omega arith

pub leaf_missing : (test : BoxOf → Bool) (e : EntryOf) (ps : List TreeNode) (n : ℕ) (p : TreeNode) → n < length ps → p ≡ get_or ps n p → height_at ps n ≡ 0 → count_by (is_entry e.0 e.1) p.kids.items ≡ 0 → walk_sum test 0 (hit e) ps (height_at ps n) n ≡ 0
leaf_missing test e ps n p inside is leaf none =
    let z = hits_none test e ps (kids_at ps n) (ap (count_by (is_entry e.0 e.1)) (kids_of ps n p inside is) ∙ none) in
    ap (λ h. walk_sum test 0 (hit e) ps h n) leaf ∙ omega (arith, walk_steps test 0 (hit e) ps 0 n, z)

pub all_missing : (test : BoxOf → Bool) (e : EntryOf) (ps : List TreeNode) (n i : ℕ) → length (kids_at ps n) ≤ i → sum_by (step_sum test 0 (hit e) ps (height_at ps n)) (take i (kids_at ps n)) ≡ 0 → walk_sum test 0 (hit e) ps (height_at ps n) n ≡ 0
all_missing test e ps n i long none = omega (arith, walk_steps test 0 (hit e) ps (height_at ps n) n, ap (sum_by (step_sum test 0 (hit e) ps (height_at ps n))) (take_all i (kids_at ps n) long), none)

pub one_missing : (test : BoxOf → Bool) (e : EntryOf) (ps : List TreeNode) (n i : ℕ) (k : Kid) → i < length (kids_at ps n) → k ≡ get_or (kids_at ps n) i k → step_sum test 0 (hit e) ps (height_at ps n) k ≡ 0
    → sum_by (step_sum test 0 (hit e) ps (height_at ps n)) (take i (kids_at ps n)) ≡ 0 → sum_by (step_sum test 0 (hit e) ps (height_at ps n)) (take (i + 1) (kids_at ps n)) ≡ 0
one_missing test e ps n i k within at none before =
    let w = step_sum test 0 (hit e) ps (height_at ps n) in
    omega (arith, sum_by_more w (kids_at ps n) i k within, ap w at, none, before)

-- the test on the path to a box
pub way_up : (b : BoxOf) → GoesUp (λ a. contains a b)
way_up b x y whole over h = over_trans x y b over h

pub none_there : (e : EntryOf) (root : Ref) (ps : List TreeNode) → IsTree root ps → cond (contains root.area e.0) (walk_sum (λ a. contains a e.0) 0 (hit e) ps root.height root.node) 0 ≡ 0 → All (λ x. x ≡ e → ⊥) (entries_list ps)
none_there e root ps tree none i d within same =
    let w : EntryOf → ℕ = λ x. cond (contains x.0 e.0) (hit e x) 0 in
    let a = get_or-le-sum_by w (entries_list ps) i d within in
    let one : w e ≡ 1 = ap (λ b. cond b (hit e e) 0) (over_self e.0) ∙ ap (λ b. cond (b && (e.1 == e.1)) 1 0) (same_self e.0) ∙ ap {B = ℕ} (λ b. cond b 1 0) (eq-eqb e.1 e.1 refl) in
    absurd (omega (arith, a, ap w same, one, none, walk_entries (λ a. contains a e.0) (way_up e.0) (hit e) root ps tree))

-- the whole tree after the removal
pub taken_out : (root : Ref) (old : List TreeNode) (tree : IsTree root old) (e : EntryOf) (r : Removed) (new : List TreeNode) → contains root.area e.0 ≡ true → height_at old root.node ≡ root.height → IsRemoved old root.node e r new → IsTakenOut root old e r new
taken_out root old tree e Missing new over high none =
    none_there e root old tree (ap (λ b. cond b (walk_sum (λ a. contains a e.0) 0 (hit e) old root.height root.node) 0) over ∙ ap (λ h. walk_sum (λ a. contains a e.0) 0 (hit e) old h root.node) (sym high) ∙ none)
taken_out root old tree e (Narrowed b) new over high s =
    let c = node_at old root.node (root_there root old tree) in
    let c-h : c.0.height ≡ root.height = root_same root old tree c.0 c.1 (λ r. r.height) in (
      record {
        once = λ F. omega (arith, s.once F c.0 c.1, root_same root old tree c.0 c.1 F, tree.once F, ap (λ h. F (record { area = b; node = root.node; height = h })) c-h);
        sound = s.sound;
        low = s.low root.height tree.low;
      },
      λ g. omega (arith, entries_listed g old, entries_listed g new, s.entries g),
    )
taken_out root old tree e Emptied new over high s = λ g.
    let c = node_at old root.node (root_there root old tree) in
    let dead = all_dead g new root.height s.sound (s.low root.height tree.low) (λ F. omega (arith, s.once F c.0 c.1, root_same root old tree c.0 c.1 F, tree.once F)) in
    let all : sum_by (entries_of (λ _. true) g) new ≡ entries_sum g new = passed_sum (λ _. true) g new ∙ entries_listed g new in
    omega (arith, entries_listed g old, s.entries g, dead, all)

pub taken_early : (root : Ref) (old : List TreeNode) (tree : IsTree root old) (e : EntryOf) → contains root.area e.0 ≡ false → IsTakenOut root old e Missing old
taken_early root old tree e out = none_there e root old tree (ap (λ b. cond b (walk_sum (λ a. contains a e.0) 0 (hit e) old root.height root.node) 0) out)

-- the child at a slot, as a loop reads it that changed nothing
pub record Again (old : List TreeNode) (n i : ℕ) (p : TreeNode) (k : Kid) (number : ℕ) : Type 0 where
  pub is : p ≡ get_or old n p
  pub lower : Lower old n i p k number
  pub within : i < length (kids_at old n)
  pub at : k ≡ get_or (kids_at old n) i k

pub lower_again : (root : Ref) (old : List TreeNode) → IsTree root old → (n i : ℕ) (p0 p : TreeNode) (kids : List Kid) (k : Kid) (number count : ℕ) → n < length old → p0 ≡ get_or old n p0 → (p0.height ≡ 0 → ⊥) → count ≡ length p0.kids.items → i < count
    → (ps : List TreeNode) → ps ≡ old → p ≡ get_or ps n p → kids ≡ p.kids.items → k ≡ get_or kids i k → number ≡ target k.1 → Again old n i p k number
lower_again root old tree n i p0 p kids k number count inside is0 up len within ps same read kids-are at say =
    let is : p ≡ get_or old n p = read ∙ ap (λ ps. get_or ps n p) same in
    let e : p0 ≡ p = same_read old n p0 p inside is0 is in
    let l : i < length kids = omega (arith, within, len, ap (λ (p : TreeNode). length p.kids.items) e, ap (λ (l : List Kid). length l) kids-are) in
    let lo = lower root old tree n i p kids k number inside is kids-are l at say (λ z. up (ap (λ (p : TreeNode). p.height) e ∙ z)) in
    let here = kids_of old n p inside is in
    record {
      is = is;
      lower = lo;
      within = omega (arith, lo.within, ap (λ (l : List Kid). length l) here);
      at = lo.at ∙ ap (λ l. get_or l i k) (sym here);
    }

-- node n, below whose child at slot i an entry was removed: the node itself is unchanged so far
pub record LeftBeneath (old : List TreeNode) (n i : ℕ) (p : TreeNode) (k : Kid) (number : ℕ) (e : EntryOf) (r : Removed) (ps : List TreeNode) : Type 0 where
  pub again : Again old n i p k number
  pub below : IsShrunk old (target k.1) e r ps
  pub kept : p ≡ get_or ps n p
  pub slot : i < length (kids_at ps n)

pub left_beneath : {root : Ref} {old now : List TreeNode} {n i number : ℕ} {p : TreeNode} {k : Kid} {e : EntryOf} {r : Removed} {ps : List TreeNode}
    → IsTree root old → n < length old → Again old n i p k number → number ≡ target k.1 → now ≡ old → IsShrunk now number e r ps → LeftBeneath old n i p k number e r ps
left_beneath {root} {old} {now} {n} {i} {number} {p} {k} {e} {r} {ps} tree inside a say same by =
    let lo = a.lower in
    let below = subst (λ m. IsShrunk old m e r ps) say (subst (λ ps0. IsShrunk ps0 number e r ps) same by) in
    let kept = kept_left root old tree n lo.h i p k inside a.is lo.up lo.within lo.at e r ps below in
    let there = inside_left root old tree n lo.h i p k inside a.is lo.up lo.within lo.at e r ps below in
    record {
      again = a;
      below = below;
      kept = kept;
      slot = omega (arith, lo.within, ap (λ (l : List Kid). length l) (kids_of ps n p there kept));
    }

-- the result for a node after the update for its child
pub removed_beneath : {root : Ref} {old : List TreeNode} {n i number : ℕ} {p : TreeNode} {k : Kid} {e : EntryOf} {r left : Removed} {ps new : List TreeNode}
    → IsTree root old → n < length old → LeftBeneath old n i p k number e r ps → IsSettledAt ps n i r left new → IsRemoved old n e left new
removed_beneath {root} {old} {n} {i} {number} {p} {k} {e} {r} {left} {ps} {new} tree inside b s =
    let lo = b.again.lower in
    let st = s.settled p b.kept in
    subst (λ new. IsRemoved old n e left new) (sym s.nodes) (told_removed s.part old n e (set ps n s.part) left st.told (shrunk_inner root old tree n lo.h i p k inside b.again.is lo.up lo.within lo.at e r ps b.below s.part left st))

pub found_beneath : {old : List TreeNode} {n i number : ℕ} {p : TreeNode} {k : Kid} {e : EntryOf} {r left : Removed} {ps new : List TreeNode} → LeftBeneath old n i p k number e r ps → IsSettledAt ps n i r left new → left ≡ Missing → ⊥
found_beneath {p = p} b s missing = let st = s.settled p b.kept in subst (IsNodeLeft s.part) missing st.told

pub held_is : (b : BoxOf) (id : ℕ) (k : Kid) → is_entry b id k ≡ true → entry_of k ≡ (b, id)
held_is b id k h =
    let e : k.0 ≡ b = same_is k.0 b (and_parts (same_box k.0 b) (target k.1 == id) h).0 in
    let f : target k.1 ≡ id = eqb-true (target k.1) id (and_parts (same_box k.0 b) (target k.1 == id) h).1 in
    ap (λ a. (a, target k.1)) e ∙ ap (λ n. (b, n)) f
