-- How sums over a tree change when one child is added.
use Rattle.std.specs.Prelude.{MatchOption, All, sum_by}
use Rattle.std.proofs.Common.{◌≡◌, refl, ℕ, zero, suc, ◌+◌, ◌<◌, ◌≤◌, Bool, true, false, cond, ◌==◌, ◌&&◌, List, [], ◌∷◌, ◌++◌, length, get_or, set, arith, ap, sym, ◌∙◌, subst, length-append, Option}
use Rattle.std.{proofs.Common.{Some, None, inl, inr}, proofs.lemmas.Bool.{ne_eqb}, proofs.lemmas.List.{length-set, get_or-set_same, get_or-set_other, get_or_append_left, get_or_default}}
use Rattle.std.{proofs.lemmas.List.Sums.{sum_by-cons, sum_by-append, sum_by-set}, proofs.lemmas.List.Elements.{All-set, All-append, All-cons, All-nil, All-get_or}}
use Rattle.mob_rtree_nodes.specs.Tree.{Kid, EntryOf, entry_of, target, if_live, is_fit, Ref, IsTree, IsSoundNode, nodes_sum, kids_sum, refs_sum, entries_sum, kids_at, height_at, kids_of_more, IsPut}
use Rattle.mob_rtree_nodes.{specs.Tree.{IsAttached, IsReplaced, IsGrown, more_sum, IsFree, IsReused}, specs.Builds.{leaf_sum}, specs.declared.node.TreeNode.{TreeNode}}
use Rattle.mob_rtree_nodes.{specs.declared.insert.Grown.{Grown}, specs.declared.node.Child.TheVariants.{Node}, proofs.Sums.{live_is, kids_of, height_of, node_at}, proofs.Frees.{free_set, reused_set}}
use Rattle.mob_rtree_nodes.proofs.Walks.{alive, kids_nil, tied_same, tied_height}
use Rattle.mob_stbox.specs.Boxes.{BoxOf, is_whole}

-- the reference to a node
abbrev pub ref_of : TreeNode → ℕ → Ref
ref_of p n = record { area = p.area; node = n; height = p.height }

abbrev pub live_of : (Ref → ℕ) → ℕ → TreeNode → ℕ
live_of F n p = if_live p.kids.items (F (ref_of p n))

pub nodes_set : (F : Ref → ℕ) (t i n : ℕ) (ps : List TreeNode) (p q : TreeNode) → t ≡ i + n → n < length ps → p ≡ get_or ps n p → nodes_sum F i (set ps n q) + live_of F t p ≡ nodes_sum F i ps + live_of F t q
nodes_set F t i n [] p q e h is = absurd (omega arith)
nodes_set F t i zero (r ∷ ps) p q e h is =
    let m : i ≡ t = omega arith in
    let a = ap (λ (n : ℕ). live_of F n r) m in
    let b = ap (λ (n : ℕ). live_of F n q) m in
    let same = ap (live_of F t) is in
    omega (arith, a, b, same)
nodes_set F t i (suc n) (r ∷ ps) p q e h is = omega (arith, nodes_set F t (i + 1) n ps p q (omega arith) (omega arith) is)

pub nodes_append : (F : Ref → ℕ) (i : ℕ) (ps qs : List TreeNode) → nodes_sum F i (ps ++ qs) ≡ nodes_sum F i ps + nodes_sum F (i + length ps) qs
nodes_append F i [] qs = let e : i ≡ i + 0 = omega arith in let m = ap (λ i. nodes_sum F i qs) e in omega (arith, m)
nodes_append F i (p ∷ ps) qs =
    let e : i + 1 + length ps ≡ i + suc (length ps) = omega arith in
    let m = ap (λ i. nodes_sum F i qs) e in
    omega (arith, nodes_append F (i + 1) ps qs, m)

-- the changes when a node gets one more child
pub record Attached (old : List TreeNode) (n : ℕ) (p : TreeNode) (kid : Kid) (grown : Grown) (new : List TreeNode) : Type 0 where
  pub nodes : (F : Ref → ℕ) → nodes_sum F 0 new + F (ref_of p n) ≡ nodes_sum F 0 old + (F (record { area = grown.area; node = n; height = p.height }) + more_sum F p.height grown.more)
  pub refs : (F : Ref → ℕ) → refs_sum F new ≡ refs_sum F old + kids_sum F p.height (kid ∷ [])
  pub entries : (g : EntryOf → ℕ) → entries_sum g new ≡ entries_sum g old + cond (p.height == 0) (g (entry_of kid)) 0
  pub sound : All IsSoundNode old → All IsSoundNode new
  pub low : (m : ℕ) → All (λ p. p.height ≤ m) old → All (λ p. p.height ≤ m) new
  pub others : (i : ℕ) (q : TreeNode) → i < length old → 0 < length q.kids.items → (i ≡ n → ⊥) → q ≡ get_or old i q → q ≡ get_or new i q
  pub longer : length old ≤ length new
  pub few : length new ≤ length old + 1

-- the sums over the children of one node, or of two
kids_parted : (F : Ref → ℕ) (h : ℕ) (xs ys zs : List Kid) (k : Kid) → ((f : Kid → ℕ) → sum_by f xs + sum_by f ys ≡ sum_by f zs + f k) → kids_sum F h xs + kids_sum F h ys ≡ kids_sum F h zs + kids_sum F h (k ∷ [])
kids_parted F zero xs ys zs k h = refl
kids_parted F (suc n) xs ys zs k h = let f : Kid → ℕ = λ k. F (record { area = k.0; node = target k.1; height = n }) in omega (arith, h f, sum_by-cons f k [])

abbrev pub leaf_one : (EntryOf → ℕ) → Kid → ℕ → ℕ
leaf_one g kid h = cond (h == 0) (g (entry_of kid)) 0

abbrev pub leaf_of : (EntryOf → ℕ) → TreeNode → ℕ
leaf_of g p = leaf_sum g p.kids.items p.height

leaf_parted : (h : ℕ) (g : EntryOf → ℕ) (xs ys zs : List Kid) (k : Kid) → ((f : Kid → ℕ) → sum_by f xs + sum_by f ys ≡ sum_by f zs + f k) → leaf_sum g xs h + leaf_sum g ys h ≡ leaf_sum g zs h + leaf_one g k h
leaf_parted h g xs ys zs k says = by_test (h == 0)
  where
    w : Kid → ℕ
    w k = g (entry_of k)

    by_test : (b : Bool) → cond b (sum_by w xs) 0 + cond b (sum_by w ys) 0 ≡ cond b (sum_by w zs) 0 + cond b (w k) 0
    by_test true = says w
    by_test false = refl

abbrev pub links_of : (Ref → ℕ) → TreeNode → ℕ
links_of F p = kids_sum F p.height p.kids.items

pub leaf_nil : (g : EntryOf → ℕ) (h : ℕ) → leaf_sum g [] h ≡ 0
leaf_nil g h = by_test (h == 0)
  where
    by_test : (b : Bool) → ◌≡◌ {A = ℕ} (cond b 0 0) 0
    by_test true = refl
    by_test false = refl

pub low_one : (m n : ℕ) (old : List TreeNode) (p part : TreeNode) → n < length old → p ≡ get_or old n p → part.height ≡ p.height → All (λ p. p.height ≤ m) old → part.height ≤ m
low_one m n old p part inside is same all = let a = All-get_or (λ p. p.height ≤ m) old n p inside all in let b = ap (λ (p : TreeNode). p.height) is in omega (arith, a, b, same)

attached_one : (old : List TreeNode) (n : ℕ) (p part : TreeNode) (kid : Kid) (grown : Grown) (new : List TreeNode) → n < length old → p ≡ get_or old n p → 0 < length p.kids.items → 0 < length part.kids.items
    → new ≡ set old n part → part.height ≡ p.height → part.area ≡ grown.area → IsSoundNode part → ((f : Kid → ℕ) → sum_by f part.kids.items + sum_by f [] ≡ sum_by f p.kids.items + f kid) → grown.more ≡ None
    → Attached old n p kid grown new
attached_one old n p part kid grown new inside is p-live part-live made same area sound kids none =
    subst (λ new. Attached old n p kid grown new) (sym made)
    (record {
      nodes = λ F. omega (arith, nodes_set F n 0 n old p part (omega arith) inside is, live_is p.kids.items (F (ref_of p n)) p-live, live_is part.kids.items (F (ref_of part n)) part-live, ap (λ a. F (record { area = a; node = n; height = p.height })) area, ap (λ h. F (record { area = part.area; node = n; height = h })) same, ap (more_sum F p.height) none);
      refs = λ F. omega (arith, sum_by-set (links_of F) old n part p inside, ap (links_of F) is, kids_parted F p.height part.kids.items [] p.kids.items kid kids, kids_nil F p.height, ap (λ h. kids_sum F h part.kids.items) same);
      entries = λ g. omega (arith, sum_by-set (leaf_of g) old n part p inside, ap (leaf_of g) is, leaf_parted p.height g part.kids.items [] p.kids.items kid kids, leaf_nil g p.height, ap (leaf_sum g part.kids.items) same);
      sound = λ all. All-set IsSoundNode old n part sound all;
      low = λ m all. All-set (λ p. p.height ≤ m) old n part (low_one m n old p part inside is same all) all;
      others = λ i q h q-live no' e. e ∙ sym (get_or-set_other old n i part q no');
      longer = omega (arith, length-set old n part);
      few = omega (arith, length-set old n part);
    })

-- the changes when a node is put into the arena
pub record PutIn (old : List TreeNode) (r : TreeNode) (m : ℕ) (new : List TreeNode) : Type 0 where
  pub nodes : (F : Ref → ℕ) → nodes_sum F 0 new ≡ nodes_sum F 0 old + F (ref_of r m)
  pub refs : (F : Ref → ℕ) → refs_sum F new ≡ refs_sum F old + links_of F r
  pub entries : (g : EntryOf → ℕ) → entries_sum g new ≡ entries_sum g old + leaf_of g r
  pub others : (i : ℕ) (q : TreeNode) → i < length old → 0 < length q.kids.items → q ≡ get_or old i q → q ≡ get_or new i q
  pub longer : length old ≤ length new
  pub few : length new ≤ length old + 1

put_over : (old : List TreeNode) (r : TreeNode) (m : ℕ) → 0 < length r.kids.items → m < length old → kids_at old m ≡ [] → PutIn old r m (set old m r)
put_over old r m live inside none =
    let p = node_at old m inside in
    let kids : p.0.kids.items ≡ [] = sym (kids_of old m p.0 inside p.1) ∙ none in
    record {
      nodes = λ F. omega (arith, nodes_set F m 0 m old p.0 r (omega arith) inside p.1, live_is r.kids.items (F (ref_of r m)) live, ap (λ l. if_live l (F (ref_of p.0 m))) kids);
      refs = λ F. omega (arith, sum_by-set (links_of F) old m r p.0 inside, ap (links_of F) p.1, ap (kids_sum F p.0.height) kids, kids_nil F p.0.height);
      entries = λ g. omega (arith, sum_by-set (leaf_of g) old m r p.0 inside, ap (leaf_of g) p.1, ap (λ l. leaf_sum g l p.0.height) kids, leaf_nil g p.0.height);
      others = λ i q h q-live is. is ∙ sym (get_or-set_other old m i r q (λ i-m. absurd (omega (arith, q-live, ap (λ (l : List Kid). length l) (sym (kids_of old i q h is) ∙ ap (kids_at old) i-m ∙ none)))));
      longer = omega (arith, length-set old m r);
      few = omega (arith, length-set old m r);
    }

put_behind : (old : List TreeNode) (r : TreeNode) → 0 < length r.kids.items → PutIn old r (length old) (old ++ r ∷ [])
put_behind old r live = record {
  nodes = λ F.
      let t : 0 + length old ≡ length old = omega arith in
      let m = ap (λ i. nodes_sum F i (r ∷ [])) t in
      omega (arith, nodes_append F 0 old (r ∷ []), m, live_is r.kids.items (F (ref_of r (length old))) live);
  refs = λ F. omega (arith, sum_by-append (links_of F) old (r ∷ []), sum_by-cons (links_of F) r []);
  entries = λ g. omega (arith, sum_by-append (leaf_of g) old (r ∷ []), sum_by-cons (leaf_of g) r []);
  others = λ i q h q-live is. is ∙ sym (get_or_append_left old (r ∷ []) q i h);
  longer = omega (arith, length-append old (r ∷ []));
  few = omega (arith, length-append old (r ∷ []));
}

pub put_in : (old : List TreeNode) (r : TreeNode) (m : ℕ) (new : List TreeNode) → 0 < length r.kids.items → IsPut old r m new → PutIn old r m new
put_in old r m new live by = elim by [
  | inl o ↦ subst (PutIn old r m) (sym o.2) (put_over old r m live o.0 o.1)
  | inr b ↦ subst (λ m. PutIn old r m new) (sym b.0) (subst (PutIn old r (length old)) (sym b.1) (put_behind old r live))
]

-- what holds for each node still does
pub put_all : (P : TreeNode → Type 0) (old : List TreeNode) (r : TreeNode) (m : ℕ) (new : List TreeNode) → IsPut old r m new → All P old → P r → All P new
put_all P old r m new by all one = elim by [
  | inl o ↦ subst (All P) (sym o.2) (All-set P old m r one all)
  | inr b ↦ subst (All P) (sym b.1) (All-append P old (r ∷ []) all (All-cons P r [] one (All-nil P)))
]

attached_two : (old : List TreeNode) (n : ℕ) (p part r : TreeNode) (number : ℕ) (kid : Kid) (grown : Grown) (new : List TreeNode) → n < length old → p ≡ get_or old n p → 0 < length p.kids.items → 0 < length part.kids.items → 0 < length r.kids.items
    → IsPut (set old n part) r number new → part.height ≡ p.height → part.area ≡ grown.area → IsSoundNode part → ((f : Kid → ℕ) → sum_by f part.kids.items + sum_by f r.kids.items ≡ sum_by f p.kids.items + f kid)
    → r.height ≡ p.height → IsSoundNode r → grown.more ≡ Some (r.area, Node number)
    → Attached old n p kid grown new
attached_two old n p part r number kid grown new inside is p-live part-live r-live made same area sound kids r-same r-sound some =
    let len = length-set old n part in
    let last = put_in (set old n part) r number new r-live made in
    record {
      nodes = λ F. omega (arith, last.nodes F, nodes_set F n 0 n old p part (omega arith) inside is, live_is p.kids.items (F (ref_of p n)) p-live, live_is part.kids.items (F (ref_of part n)) part-live, ap (λ a. F (record { area = a; node = n; height = p.height })) area, ap (λ h. F (record { area = part.area; node = n; height = h })) same, ap (more_sum F p.height) some, ap (λ h. F (record { area = r.area; node = number; height = h })) r-same);
      refs = λ F. omega (arith, last.refs F, sum_by-set (links_of F) old n part p inside, ap (links_of F) is, kids_parted F p.height part.kids.items r.kids.items p.kids.items kid kids, ap (λ h. kids_sum F h part.kids.items) same, ap (λ h. kids_sum F h r.kids.items) r-same);
      entries = λ g. omega (arith, last.entries g, sum_by-set (leaf_of g) old n part p inside, ap (leaf_of g) is, leaf_parted p.height g part.kids.items r.kids.items p.kids.items kid kids, ap (leaf_sum g part.kids.items) same, ap (leaf_sum g r.kids.items) r-same);
      sound = λ all. put_all IsSoundNode (set old n part) r number new made (All-set IsSoundNode old n part sound all) r-sound;
      low = λ m all. put_all (λ p. p.height ≤ m) (set old n part) r number new made (All-set (λ p. p.height ≤ m) old n part (low_one m n old p part inside is same all) all) (low_one m n old p r inside is r-same all);
      others = λ i q h q-live no' e. last.others i q (omega (arith, len, h)) q-live (e ∙ sym (get_or-set_other old n i part q no'));
      longer = omega (arith, len, last.longer);
      few = omega (arith, len, last.few);
    }

pub attached : (old : List TreeNode) (n : ℕ) (p : TreeNode) (kid : Kid) (grown : Grown) (new : List TreeNode) → n < length old → p ≡ get_or old n p → 0 < length p.kids.items → IsAttached old n kid grown new → Attached old n p kid grown new
attached old n p kid grown new inside is p-live by = by_more by.more by.nodes by.kids by.other
  where
    height : by.part.height ≡ p.height
    height = by.height ∙ height_of old n p inside is

    with_kids : (ys : List Kid) → ((f : Kid → ℕ) → sum_by f by.part.kids.items + sum_by f ys ≡ sum_by f (kids_at old n) + f kid) → (f : Kid → ℕ) → sum_by f by.part.kids.items + sum_by f ys ≡ sum_by f p.kids.items + f kid
    with_kids ys h f = omega (arith, h f, ap (sum_by f) (kids_of old n p inside is))

    by_more : (more : Option TreeNode) → MatchOption more (new ≡ set old n by.part) (λ r. IsPut (set old n by.part) r by.number new) → ((f : Kid → ℕ) → sum_by f by.part.kids.items + sum_by f (kids_of_more more) ≡ sum_by f (kids_at old n) + f kid)
        → MatchOption more (grown.more ≡ None) (λ p. (p.height ≡ height_at old n) × IsSoundNode p × (0 < length p.kids.items) × (grown.more ≡ Some (p.area, Node by.number))) → Attached old n p kid grown new
    by_more None made kids none = attached_one old n p by.part kid grown new inside is p-live by.live made height by.area by.sound (with_kids [] kids) none
    by_more (Some r) made kids some = attached_two old n p by.part r by.number kid grown new inside is p-live by.live some.2 made height by.area by.sound (with_kids r.kids.items kids) (some.0 ∙ height_of old n p inside is) some.1 some.3

pub same_read : (ps : List TreeNode) (n : ℕ) (p q : TreeNode) → n < length ps → p ≡ get_or ps n p → q ≡ get_or ps n q → p ≡ q
same_read ps n p q h a b = a ∙ get_or_default ps n p q h ∙ sym b

abbrev grown_at : (Ref → ℕ) → ℕ → Grown → TreeNode → ℕ
grown_at F n grown p = F (record { area = grown.area; node = n; height = p.height }) + more_sum F p.height grown.more

abbrev at_height : (Ref → ℕ) → Kid → ℕ → ℕ
at_height F kid h = kids_sum F h (kid ∷ [])

pub node_fit : (h n : ℕ) (b : BoxOf) → is_whole b ≡ true → is_fit (h + 1) (b, Node n) ≡ true
node_fit h n b w = let up : h + 1 ≡ suc h = omega arith in ap (λ m. is_fit m (b, Node n)) up ∙ ap (λ v. v && true) w

attached_fit : (old : List TreeNode) (n : ℕ) (kid : Kid) (grown : Grown) (new : List TreeNode) → IsAttached old n kid grown new → MatchOption grown.more (0 ≤ 0) (λ k. is_fit (height_at old n + 1) k ≡ true)
attached_fit old n kid grown new by = by_more by.more by.other
  where
    by_more : (more : Option TreeNode) → MatchOption more (grown.more ≡ None) (λ p. (p.height ≡ height_at old n) × IsSoundNode p × (0 < length p.kids.items) × (grown.more ≡ Some (p.area, Node by.number))) → MatchOption grown.more (0 ≤ 0) (λ k. is_fit (height_at old n + 1) k ≡ true)
    by_more None none = subst (λ m. MatchOption m (0 ≤ 0) (λ k. is_fit (height_at old n + 1) k ≡ true)) (sym none) (omega arith)
    by_more (Some r) some = subst (λ m. MatchOption m (0 ≤ 0) (λ k. is_fit (height_at old n + 1) k ≡ true)) (sym some.3) (node_fit (height_at old n) by.number r.area some.1.whole)

-- an entry is added to a leaf
pub grown_leaf : (old : List TreeNode) (n : ℕ) (p : TreeNode) (kid : Kid) (grown : Grown) (new : List TreeNode) → n < length old → p ≡ get_or old n p → p.height ≡ 0 → 0 < length p.kids.items → All IsSoundNode old → IsAttached old n kid grown new → IsGrown old n kid grown new
grown_leaf old n p kid grown new inside is leaf live sound by =
    let a = attached old n p kid grown new inside is live by in
    record {
      once = λ F q q-is. subst (λ p. nodes_sum F 0 new + (refs_sum F old + F (ref_of p n)) ≡ nodes_sum F 0 old + (refs_sum F new + grown_at F n grown p)) (same_read old n p q inside is q-is)
          (omega (arith, a.nodes F, a.refs F, ap (at_height F kid) leaf));
      entries = λ g. omega (arith, a.entries g, ap (leaf_one g kid) leaf);
      sound = a.sound sound;
      low = a.low;
      above = λ i q h q-live above e. a.others i q h q-live (λ i-is. absurd (omega (arith, above, height_of old n p inside is, leaf, height_of old i q h e, ap (height_at old) i-is))) e;
      longer = a.longer;
      few = omega (arith, a.few);
      whole = ap is_whole (sym by.area) ∙ by.sound.whole;
      more = attached_fit old n kid grown new by;
    }

pub inner_leaf : (g : EntryOf → ℕ) (kids : List Kid) (h m : ℕ) → m ≡ suc h → leaf_sum g kids m ≡ 0
inner_leaf g kids h m e = ap (λ b. cond b (sum_by (λ k. g (entry_of k)) kids) 0) (ne_eqb m 0 (λ z. absurd (omega (arith, e, z))))

inner_one : (g : EntryOf → ℕ) (kid : Kid) (h m : ℕ) → m ≡ suc h → leaf_one g kid m ≡ 0
inner_one g kid h m e = ap (λ b. cond b (g (entry_of kid)) 0) (ne_eqb m 0 (λ z. absurd (omega (arith, e, z))))

-- one more entry below the child at slot: a wider box for it, and the node that was split off it
pub record Widened (old : List TreeNode) (n : ℕ) (p : TreeNode) (h : ℕ) (k : Kid) (area : BoxOf) (wider : BoxOf) (new : List TreeNode) : Type 0 where
  pub nodes : (F : Ref → ℕ) → nodes_sum F 0 new + F (ref_of p n) ≡ nodes_sum F 0 old + F (record { area = wider; node = n; height = p.height })
  pub refs : (F : Ref → ℕ) → refs_sum F new + F (record { area = k.0; node = target k.1; height = h }) ≡ refs_sum F old + F (record { area = area; node = target k.1; height = h })
  pub entries : (g : EntryOf → ℕ) → entries_sum g new ≡ entries_sum g old
  pub sound : All IsSoundNode old → All IsSoundNode new
  pub low : (m : ℕ) → All (λ p. p.height ≤ m) old → All (λ p. p.height ≤ m) new
  pub others : (i : ℕ) (q : TreeNode) → i < length old → (i ≡ n → ⊥) → q ≡ get_or old i q → q ≡ get_or new i q
  pub size : length new ≡ length old
  pub live : (q : TreeNode) → q ≡ get_or new n q → 0 < length q.kids.items

pub widened : (old : List TreeNode) (n : ℕ) (p part : TreeNode) (h i : ℕ) (k : Kid) (area : BoxOf) → n < length old → p ≡ get_or old n p → p.height ≡ suc h → i < length p.kids.items → k ≡ get_or p.kids.items i k → IsReplaced p i area part
    → Widened old n p h k area part.area (set old n part)
widened old n p part h i k area inside is up within at by =
    let new : Kid = (area, k.1) in
    let kids : part.kids.items ≡ set p.kids.items i new = by.kids k ∙ ap (λ (k : Kid). set p.kids.items i (area, k.1)) (sym at) in
    let p-live : 0 < length p.kids.items = omega (arith, within) in
    let part-live : 0 < length part.kids.items = omega (arith, within, ap (λ (l : List Kid). length l) kids, length-set p.kids.items i new) in
    record {
      nodes = λ F. omega (arith, nodes_set F n 0 n old p part (omega arith) inside is, live_is p.kids.items (F (ref_of p n)) p-live, live_is part.kids.items (F (ref_of part n)) part-live, ap (λ h. F (record { area = part.area; node = n; height = h })) by.height);
      refs = λ F.
          let f : Kid → ℕ = λ k. F (record { area = k.0; node = target k.1; height = h }) in
          let a : links_of F part ≡ sum_by f (set p.kids.items i new) = ap (λ h. kids_sum F h part.kids.items) (by.height ∙ up) ∙ ap (sum_by f) kids in
          let b : links_of F p ≡ sum_by f p.kids.items = ap (λ h. kids_sum F h p.kids.items) up in
          omega (arith, sum_by-set (links_of F) old n part p inside, ap (links_of F) is, a, b, sum_by-set f p.kids.items i new k within, ap f at);
      entries = λ g.
          let a = inner_leaf g part.kids.items h part.height (by.height ∙ up) in
          let b = inner_leaf g p.kids.items h p.height up in
          omega (arith, sum_by-set (leaf_of g) old n part p inside, ap (leaf_of g) is, a, b);
      sound = λ all. All-set IsSoundNode old n part by.sound all;
      low = λ m all. All-set (λ p. p.height ≤ m) old n part (low_one m n old p part inside is by.height all) all;
      others = λ i q h no' e. e ∙ sym (get_or-set_other old n i part q no');
      size = length-set old n part;
      live = λ q q-is. subst (λ (q : TreeNode). 0 < length q.kids.items) (sym (q-is ∙ get_or-set_same old n part q inside)) part-live;
    }

module _ (root : Ref) (old : List TreeNode) (tree : IsTree root old) (n h i : ℕ) (p : TreeNode) (k : Kid) (inside : n < length old) (is : p ≡ get_or old n p) (up : p.height ≡ suc h) (within : i < length p.kids.items) (at : k ≡ get_or p.kids.items i k)
    (kid : Kid) (g1 : Grown) (ps1 : List TreeNode) (below : IsGrown old (target k.1) kid g1 ps1) (p1 part : TreeNode) (read : p1 ≡ get_or ps1 n p1) (by : IsReplaced p1 i g1.area part) where
  there : ((target k.1) < length old) × (height_at old (target k.1) ≡ h)
  there = tied_height root old tree n h i p k inside is up within at

  inside1 : n < length ps1
  inside1 = omega (arith, below.longer, inside)

  kept : p ≡ get_or ps1 n p
  kept = below.above n p inside (omega (arith, within)) (omega (arith, there.1, up)) is

  same : p1 ≡ p
  same = same_read ps1 n p1 p inside1 read kept

  wide : Widened ps1 n p h k g1.area part.area (set ps1 n part)
  wide = widened ps1 n p part h i k g1.area inside1 kept up within at (subst (λ p. IsReplaced p i g1.area part) same by)

  once_below : (F : Ref → ℕ) → nodes_sum F 0 ps1 + (refs_sum F old + F (record { area = k.0; node = target k.1; height = h })) ≡ nodes_sum F 0 old + (refs_sum F ps1 + (F (record { area = g1.area; node = target k.1; height = h }) + more_sum F h g1.more))
  once_below F =
      let c = node_at old (target k.1) there.0 in
      let e : c.0.height ≡ h = sym (height_of old (target k.1) c.0 there.0 c.1) ∙ there.1 in
      let t = tied_same root old tree n h i p k inside is up within at c.0 there.0 c.1 F in
      omega (arith, below.once F c.0 c.1, t, ap (λ h. F (record { area = g1.area; node = target k.1; height = h })) e, ap (λ h. more_sum F h g1.more) e)

  not_here : (m : ℕ) → suc h < m → (q : TreeNode) (j : ℕ) → j < length old → q ≡ get_or old j q → q.height ≡ m → j ≡ n → ⊥
  not_here m above q j h' e q-m j-n = absurd (omega (arith, above, q-m, height_of old n p inside is, up, height_of old j q h' e, ap (height_at old) j-n))

  pub grown_none : g1.more ≡ None → IsGrown old n kid (record { area = part.area; more = None }) (set ps1 n part)
  grown_none none =
      let g : Grown = record { area = part.area; more = None } in
      record {
        once = λ F q q-is. subst (λ p. nodes_sum F 0 (set ps1 n part) + (refs_sum F old + F (ref_of p n)) ≡ nodes_sum F 0 old + (refs_sum F (set ps1 n part) + grown_at F n g p)) (same_read old n p q inside is q-is)
            (omega (arith, once_below F, wide.nodes F, wide.refs F, ap (more_sum F h) none));
        entries = λ f. wide.entries f ∙ below.entries f;
        sound = wide.sound below.sound;
        low = λ m all. wide.low m (below.low m all);
        above = λ j q h' q-live above e. wide.others j q (omega (arith, h', below.longer)) (not_here q.height (omega (arith, above, height_of old n p inside is, up)) q j h' e refl) (below.above j q h' q-live (omega (arith, above, height_of old n p inside is, up, there.1)) e);
        longer = omega (arith, below.longer, wide.size);
        few = omega (arith, below.few, wide.size, there.1, height_of old n p inside is, up);
        whole = by.sound.whole;
        more = omega arith;
      }

  pub grown_some : (m : Kid) (g3 : Grown) (new : List TreeNode) → g1.more ≡ Some m → IsAttached (set ps1 n part) n m g3 new → IsGrown old n kid g3 new
  grown_some m g3 new some put =
      let inside2 : n < length (set ps1 n part) = omega (arith, inside1, wide.size) in
      let is2 : part ≡ get_or (set ps1 n part) n part = sym (get_or-set_same ps1 n part part inside1) in
      let last = attached (set ps1 n part) n part m g3 new inside2 is2 (wide.live part is2) put in
      let high : part.height ≡ p.height = by.height ∙ ap (λ (p : TreeNode). p.height) same in
      let up2 : part.height ≡ suc h = high ∙ up in
      record {
        once = λ F q q-is. subst (λ p. nodes_sum F 0 new + (refs_sum F old + F (ref_of p n)) ≡ nodes_sum F 0 old + (refs_sum F new + grown_at F n g3 p)) (same_read old n p q inside is q-is)
            (omega (
              arith,
              once_below F,
              wide.nodes F,
              wide.refs F,
              ap (more_sum F h) some,
              last.nodes F,
              last.refs F,
              ap (at_height F m) up2,
              sum_by-cons (λ k. F (record { area = k.0; node = target k.1; height = h })) m [],
              ap (λ h. F (record { area = part.area; node = n; height = h })) high,
              ap (λ h. F (record { area = g3.area; node = n; height = h }) + more_sum F h g3.more) high,
            ));
        entries = λ f. omega (arith, last.entries f, inner_one f m h part.height up2, wide.entries f, below.entries f);
        sound = last.sound (wide.sound below.sound);
        low = λ m all. last.low m (wide.low m (below.low m all));
        above = λ j q h' q-live above e.
            let no' = not_here q.height (omega (arith, above, height_of old n p inside is, up)) q j h' e refl in
            last.others j q (omega (arith, h', below.longer, wide.size)) q-live no' (wide.others j q (omega (arith, h', below.longer)) no' (below.above j q h' q-live (omega (arith, above, height_of old n p inside is, up, there.1)) e));
        longer = omega (arith, below.longer, wide.size, last.longer);
        few = omega (arith, below.few, wide.size, last.few, there.1, height_of old n p inside is, up);
        whole = ap is_whole (sym put.area) ∙ put.sound.whole;
        more = subst (λ h. MatchOption g3.more (0 ≤ 0) (λ k. is_fit (h + 1) k ≡ true)) (height_of (set ps1 n part) n part inside2 is2 ∙ high ∙ sym (height_of old n p inside is)) (attached_fit (set ps1 n part) n m g3 new put);
      }

pub same_node : (root : Ref) (old : List TreeNode) (tree : IsTree root old) (n h i : ℕ) (p : TreeNode) (k : Kid) (inside : n < length old) (is : p ≡ get_or old n p) (up : p.height ≡ suc h) (within : i < length p.kids.items) (at : k ≡ get_or p.kids.items i k)
    (kid : Kid) (g1 : Grown) (ps1 : List TreeNode) (below : IsGrown old (target k.1) kid g1 ps1) (p1 : TreeNode) (read : p1 ≡ get_or ps1 n p1) → p1 ≡ p
same_node root old tree n h i p k inside is up within at kid g1 ps1 below p1 read =
    let t = tied_height root old tree n h i p k inside is up within at in
    same_read ps1 n p1 p (omega (arith, below.longer, inside)) read (below.above n p inside (omega (arith, within)) (omega (arith, t.1, up)) is)

pub inner : (m : ℕ) → (m ≡ 0 → ⊥) → (h : ℕ) × (m ≡ suc h)
inner zero z = absurd (z refl)
inner (suc h) z = (h, refl)

-- the child at a slot of an inner node
pub record Lower (ps : List TreeNode) (n i : ℕ) (p : TreeNode) (k : Kid) (number : ℕ) : Type 0 where
  pub h : ℕ
  pub up : p.height ≡ suc h
  pub within : i < length p.kids.items
  pub at : k ≡ get_or p.kids.items i k
  pub there : number < length ps
  pub high : height_at ps number ≡ h
  pub here : height_at ps n ≡ p.height
  pub alive : 0 < length (kids_at ps number)

pub lower : (root : Ref) (ps : List TreeNode) → IsTree root ps → (n i : ℕ) (p : TreeNode) (kids : List Kid) (k : Kid) (number : ℕ) → n < length ps → p ≡ get_or ps n p → kids ≡ p.kids.items → i < length kids → k ≡ get_or kids i k → number ≡ target k.1 → (p.height ≡ 0 → ⊥) → Lower ps n i p k number
lower root ps tree n i p kids k number inside is same within at say up =
    let h = inner p.height up in
    let l : i < length p.kids.items = omega (arith, within, ap (λ (l : List Kid). length l) same) in
    let a : k ≡ get_or p.kids.items i k = at ∙ ap (λ l. get_or l i k) same in
    let t = tied_height root ps tree n h.0 i p k inside is h.1 l a in
    record {
      h = h.0;
      up = h.1;
      within = l;
      at = a;
      there = omega (arith, t.0, say);
      high = ap (height_at ps) say ∙ t.1;
      here = height_of ps n p inside is;
      alive = subst (λ n. 0 < length (kids_at ps n)) (sym say) (alive root ps tree n h.0 i p k inside is h.1 l a);
    }

-- a node whose child got a new box still has children
pub record StillLive (frees : List ℕ) (ps : List TreeNode) (n : ℕ) (part : TreeNode) : Type 0 where
  pub live : 0 < length (kids_at (set ps n part) n)
  pub free : IsFree frees (set ps n part)
  pub reused : IsReused ps (set ps n part)

pub still_live : (free : List ℕ) (ps : List TreeNode) (n i : ℕ) (p part : TreeNode) (k : Kid) (area : BoxOf) → n < length ps → p ≡ get_or ps n p → i < length p.kids.items → IsReplaced p i area part → IsFree free ps → StillLive free ps n part
still_live free ps n i p part k area inside is within by frees =
    let live : 0 < length part.kids.items = omega (arith, within, ap (λ (l : List Kid). length l) (by.kids k), length-set p.kids.items i (area, (get_or p.kids.items i k).1)) in
    record {
      live = omega (arith, live, ap (λ (l : List Kid). length l) (kids_of (set ps n part) n part (omega (arith, inside, length-set ps n part)) (sym (get_or-set_same ps n part part inside))));
      free = free_set free ps n p part inside is (omega (arith, within)) live frees;
      reused = reused_set ps n part live;
    }

-- node n, whose child at slot i has one more entry below it: the node itself is unchanged so far
pub record Beneath (old : List TreeNode) (n i : ℕ) (p : TreeNode) (k : Kid) (number : ℕ) (kid : Kid) (grown : Grown) (ps : List TreeNode) (p1 : TreeNode) : Type 0 where
  pub lower : Lower old n i p k number
  pub below : IsGrown old (target k.1) kid grown ps
  pub there : n < length ps
  pub same : p1 ≡ p
  pub within : i < length p1.kids.items

pub beneath : {root : Ref} {old : List TreeNode} {n i number : ℕ} {p p1 : TreeNode} {kids : List Kid} {k kid : Kid} {grown : Grown} {ps : List TreeNode}
    → IsTree root old → n < length old → p ≡ get_or old n p → kids ≡ p.kids.items → i < length kids → k ≡ get_or kids i k → number ≡ target k.1 → (p.height ≡ 0 → ⊥) → IsGrown old number kid grown ps → p1 ≡ get_or ps n p1
    → Beneath old n i p k number kid grown ps p1
beneath {root} {old} {n} {i} {number} {p} {p1} {kids} {k} {kid} {grown} {ps} tree inside is kids-are within at say up by read =
    let d = lower root old tree n i p kids k number inside is kids-are within at say up in
    let below = subst (λ m. IsGrown old m kid grown ps) say by in
    let same = same_node root old tree n d.h i p k inside is d.up d.within d.at kid grown ps below p1 read in
    record {
      lower = d;
      below = below;
      there = omega (arith, below.longer, inside);
      same = same;
      within = omega (arith, d.within, ap (λ (p : TreeNode). length p.kids.items) same);
    }
