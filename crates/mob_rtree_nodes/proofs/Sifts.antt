-- Nodes are sifted level by level, and the contents of the whole tree then.
use Rattle.std.{specs.Prelude.{All, sum_by, count_by, slice_get, option_and_then}, specs.List.{cons_option, filter_map}}
use Rattle.std.proofs.Common.{◌≡◌, refl, ℕ, zero, suc, ◌+◌, ◌<◌, ◌≤◌, Bool, true, false, cond, not, ◌==◌, ◌&&◌, List, [], ◌∷◌, ◌++◌, length, get_or, set, take, arith, ap, sym, ◌∙◌, subst, ◌⊎◌, inl}
use Rattle.std.{proofs.Common.{inr, Option, Some, None}, proofs.lemmas.Bool.{cases_lt, ne_eqb, true≢false}, proofs.lemmas.Bool.Decides.{eqb_tells}}
use Rattle.std.{proofs.lemmas.List.{length-set, get_or-set_same, get_or-set_other, get_or_default, take_more}, proofs.lemmas.List.Elements.{All-head, All-tail, All-get_or, filter_map-append}}
use Rattle.std.{proofs.lemmas.List.Sums.{sum_by-cons}, proofs.lemmas.Option.{get_or_from_slice_get, slice_get_read, slice_get_within}}
use Rattle.mob_stbox.specs.Boxes.{is_whole}
use Rattle.mob_rtree_nodes.specs.Tree.{Kid, EntryOf, entry_of, target, if_live, is_fit, is_kind, Ref, IsTree, IsSoundNode, nodes_sum, kids_sum, refs_sum, entries_sum, entries_list, height_at}
use Rattle.mob_rtree_nodes.{specs.Builds.{leaf_sum}, specs.Ids.{without_ids}, specs.Sifts.{left_entry, left_node, left_kid, IsSiftedNode, IsSifted, IsSiftedAt, IsSiftedUpTo, IsTreeLeft}}
use Rattle.mob_rtree_nodes.{specs.declared.node.TreeNode.{TreeNode}, proofs.Sums.{same_sums, height_of, node_at, live_is}, proofs.Walks.{tied_height, all_dead, entries_of}}
use Rattle.mob_rtree_nodes.{proofs.Inserts.{ref_of, live_of, links_of, leaf_of, inner, same_read}, proofs.Roots.{root_there, root_height, entries_listed, passed_sum}}
use Rattle.mob_list.specs.Live.{is_among}

-- ---- lists of what is left

filter_map_alike : {X Y : Type 0} (f g : X → Option Y) (P : X → Type 0) → ((x : X) → P x → f x ≡ g x) → (xs : List X) → All P xs → filter_map f xs ≡ filter_map g xs
filter_map_alike f g P says [] all = refl
filter_map_alike f g P says (x ∷ xs) all = ap (λ o. cons_option o (filter_map f xs)) (says x (All-head P x xs all)) ∙ ap (cons_option (g x)) (filter_map_alike f g P says xs (All-tail P x xs all))

-- one more of a list
pub left_more : {X Y : Type 0} (f : X → Option Y) (xs : List X) (i : ℕ) (x : X) → i < length xs → x ≡ get_or xs i x → filter_map f (take (i + 1) xs) ≡ filter_map f (take i xs) ++ cons_option (f x) []
left_more f xs i x lt at =
    ap (filter_map f) (take_more xs i x lt) ∙ filter_map-append f (take i xs) (get_or xs i x ∷ []) ∙ ap (λ y. filter_map f (take i xs) ++ cons_option (f y) []) (sym at)

-- sums over what is left
abbrev sum_option : {Y : Type 0} → (Y → ℕ) → Option Y → ℕ
sum_option w None = 0
sum_option w (Some y) = w y

sum_left : {X Y : Type 0} (w : Y → ℕ) (f : X → Option Y) (xs : List X) → sum_by w (filter_map f xs) ≡ sum_by (λ x. sum_option w (f x)) xs
sum_left w f [] = refl
sum_left {Y = Y} w f (x ∷ xs) = omega (arith, sum_by-cons (λ x. sum_option w (f x)) x xs, by (f x), sum_left w f xs)
  where
    by : (o : Option Y) → sum_by w (cons_option o (filter_map f xs)) ≡ sum_option w o + sum_by w (filter_map f xs)
    by None = omega arith
    by (Some y) = sum_by-cons w y (filter_map f xs)

-- sums over two lists of nodes, number by number
paired_sums : (f g : TreeNode → ℕ) (ps qs : List TreeNode) → length qs ≡ length ps → ((i : ℕ) (p q : TreeNode) → i < length ps → p ≡ get_or ps i p → q ≡ get_or qs i q → g q ≡ f p) → sum_by g qs ≡ sum_by f ps
paired_sums f g [] [] len says = refl
paired_sums f g [] (q ∷ qs) len says = absurd (omega (arith, len))
paired_sums f g (p ∷ ps) [] len says = absurd (omega (arith, len))
paired_sums f g (p ∷ ps) (q ∷ qs) len says = omega (arith, sum_by-cons f p ps, sum_by-cons g q qs, says 0 p q (omega arith) refl refl, paired_sums f g ps qs (omega (arith, len)) (λ i a b lt. says (suc i) a b (omega (arith, lt))))

paired_nodes : (F G : Ref → ℕ) (n : ℕ) (ps qs : List TreeNode) → length qs ≡ length ps → ((i : ℕ) (p q : TreeNode) → i < length ps → p ≡ get_or ps i p → q ≡ get_or qs i q → live_of G (n + i) q ≡ live_of F (n + i) p) → nodes_sum G n qs ≡ nodes_sum F n ps
paired_nodes F G n [] [] len says = refl
paired_nodes F G n [] (q ∷ qs) len says = absurd (omega (arith, len))
paired_nodes F G n (p ∷ ps) [] len says = absurd (omega (arith, len))
paired_nodes F G n (p ∷ ps) (q ∷ qs) len says =
    let z : n + 0 ≡ n = omega arith in
    let first : live_of G n q ≡ live_of F n p = subst (λ m. live_of G m q ≡ live_of F m p) z (says 0 p q (omega arith) refl refl) in
    let rest = paired_nodes F G (n + 1) ps qs (omega (arith, len)) (λ i a b lt x y. let m : n + suc i ≡ n + 1 + i = omega arith in subst (λ m. live_of G m b ≡ live_of F m a) m (says (suc i) a b (omega (arith, lt)) x y)) in
    omega (arith, first, rest)

-- ---- a sifted node

less_sums : {X : Type 0} (f g : X → ℕ) → ((x : X) → f x ≤ g x) → (xs : List X) → sum_by f xs ≤ sum_by g xs
less_sums f g says [] = omega arith
less_sums f g says (x ∷ xs) = omega (arith, sum_by-cons f x xs, sum_by-cons g x xs, says x, less_sums f g says xs)

module _ (ids : List ℕ) (ps : List TreeNode) (sound : All IsSoundNode ps) (h : ℕ) where
  abbrev unfit : Kid → ℕ
  unfit k = cond (not (is_fit h k)) 1 0

  after_less : (k : Kid) → sum_option unfit (left_kid ids ps h k) ≤ unfit k
  after_less k = by (h == 0)
    where
      of_entry : (b : Bool) → sum_option unfit (cond b None (Some k)) ≤ unfit k
      of_entry true = omega arith
      of_entry false = omega arith

      whole_less : (a b c : Bool) → a ≡ true → cond {A = ℕ} (not (a && c)) 1 0 ≤ cond {A = ℕ} (not (b && c)) 1 0
      whole_less true true c e = omega arith
      whole_less true false true e = omega arith
      whole_less true false false e = omega arith
      whole_less false b c e = absurd (true≢false (sym e))

      of_part : (p : TreeNode) → is_whole p.area ≡ true → (b : Bool) → sum_option unfit (cond b None (Some (p.area, k.1))) ≤ unfit k
      of_part p whole true = omega arith
      of_part p whole false = whole_less (is_whole p.area) (is_whole k.0) (is_kind h k.1) whole

      of_node : (o : Option TreeNode) → slice_get ps (target k.1) ≡ o → sum_option unfit (option_and_then (λ (p : TreeNode). cond (length p.kids.items == 0) None (Some (p.area, k.1))) o) ≤ unfit k
      of_node None e = omega arith
      of_node (Some p) e =
          let s = All-get_or IsSoundNode ps (target k.1) p (slice_get_within ps (target k.1) p e) sound in
          of_part p (ap (λ (p : TreeNode). is_whole p.area) (sym (get_or_from_slice_get ps (target k.1) p p e)) ∙ s.whole) (length p.kids.items == 0)

      by : (b : Bool) → sum_option unfit (cond b (left_entry ids k) (left_node ps k)) ≤ unfit k
      by true = of_entry (is_among (target k.1) ids)
      by false = of_node (slice_get ps (target k.1)) refl

  -- the children that are left still fit
  pub after_fit : (kids : List Kid) → count_by (λ k. not (is_fit h k)) kids ≡ 0 → count_by (λ k. not (is_fit h k)) (filter_map (left_kid ids ps h) kids) ≡ 0
  after_fit kids none = omega (arith, sum_left unfit (left_kid ids ps h) kids, less_sums (λ k. sum_option unfit (left_kid ids ps h k)) unfit after_less kids, none)

pub sifted_at : (ids : List ℕ) (old : List TreeNode) (n : ℕ) (p part : TreeNode) → n < length old → p ≡ get_or old n p → part.height ≡ p.height → IsSoundNode part → part.kids.items ≡ filter_map (left_kid ids old p.height) p.kids.items → IsSiftedAt ids old n (set old n part)
sifted_at ids old n p part inside is height sound kids =
    record {
      part = part;
      nodes = refl;
      sifted = λ q at. subst (λ q. IsSiftedNode ids old q part) (same_read old n p q inside is at) (record { height = height; sound = sound; kids = kids });
    }

-- what was read of the node is its current value
pub read_left : (ids : List ℕ) (old ps : List TreeNode) (n : ℕ) (p q : TreeNode) (left : List Kid) → n < length old → ps ≡ old → p ≡ get_or old n p → q ≡ get_or old n q → left ≡ filter_map (left_kid ids ps q.height) q.kids.items → left ≡ filter_map (left_kid ids old p.height) p.kids.items
read_left ids old ps n p q left inside same p-is q-is made =
    made ∙ ap (λ ps. filter_map (left_kid ids ps q.height) q.kids.items) same ∙ ap (λ (p : TreeNode). filter_map (left_kid ids old p.height) p.kids.items) (same_read old n q p inside q-is p-is)

-- ---- level by level

slice_other : (ps : List TreeNode) (n m : ℕ) (q : TreeNode) → (m ≡ n → ⊥) → slice_get (set ps n q) m ≡ slice_get ps m
slice_other [] n m q apart = refl
slice_other (p ∷ ps) zero zero q apart = absurd (apart refl)
slice_other (p ∷ ps) zero (suc m) q apart = refl
slice_other (p ∷ ps) (suc n) zero q apart = refl
slice_other (p ∷ ps) (suc n) (suc m) q apart = slice_other ps n m q (λ e. apart (ap suc e))

-- the children left by nodes other than node n
left_apart : (ids : List ℕ) (ps : List TreeNode) (n : ℕ) (q : TreeNode) (h : ℕ) (kids : List Kid) → ((h ≡ 0 → ⊥) → All (λ k. target k.1 ≡ n → ⊥) kids) → filter_map (left_kid ids (set ps n q) h) kids ≡ filter_map (left_kid ids ps h) kids
left_apart ids ps n q h kids apart = elim (eqb_tells h 0) [
  | inl z ↦ ap (λ b. filter_map (λ k. cond b (left_entry ids k) (left_node (set ps n q) k)) kids) z.0 ∙ sym (ap (λ b. filter_map (λ k. cond b (left_entry ids k) (left_node ps k)) kids) z.0)
  | inr z ↦
      ap (λ b. filter_map (λ k. cond b (left_entry ids k) (left_node (set ps n q) k)) kids) z.0
      ∙ filter_map_alike (left_node (set ps n q)) (left_node ps) (λ k. target k.1 ≡ n → ⊥) (λ k a. ap (option_and_then (λ (p : TreeNode). cond (length p.kids.items == 0) None (Some (p.area, k.1)))) (slice_other ps n (target k.1) q a)) kids (apart z.1)
      ∙ sym (ap (λ b. filter_map (λ k. cond b (left_entry ids k) (left_node ps k)) kids) z.0)
]

module _ (ids : List ℕ) (root : Ref) (old : List TreeNode) (tree : IsTree root old) where
  -- the children of a node at most as high as node n are other nodes
  lower_kids : (i n : ℕ) (p c : TreeNode) → i < length old → p ≡ get_or old i p → n < length old → c ≡ get_or old n c → p.height ≤ c.height → (p.height ≡ 0 → ⊥) → All (λ k. target k.1 ≡ n → ⊥) p.kids.items
  lower_kids i n p c inside is there c-is low up j d lt same =
      let h = inner p.height up in
      let k = get_or p.kids.items j d in
      let t = tied_height root old tree i h.0 j p k inside is h.1 lt (get_or_default p.kids.items j d k lt) in
      absurd (omega (arith, low, h.1, t.1, ap (height_at old) same, height_of old n c there c-is))

  module _ (h n : ℕ) (ps : List TreeNode) (up : IsSiftedUpTo ids old h n ps) where
    inside_old : n < length ps → n < length old
    inside_old lt = omega (arith, lt, up.size)

    -- a node of another height is skipped
    pub pass_node : (q : TreeNode) → n < length ps → q ≡ get_or ps n q → (q.height ≡ h → ⊥) → IsSiftedUpTo ids old h (n + 1) ps
    pass_node q lt at other = record {
      size = up.size;
      done = λ i p r inside p-is r-is before. up.done i p r inside p-is r-is (elim before [
        | inl l ↦ inl l
        | inr l ↦ elim (cases_lt i n) [
          | inl less ↦ inr (l.0, less)
          | inr ge ↦
              let b = l.1 in
              let i-n : i ≡ n = omega (arith, b, ge) in
              let same : r ≡ p = up.rest i p r inside p-is r-is (inr (l.0, ge)) in
              let r-q : r ≡ q = same_read ps n r q lt (r-is ∙ ap (λ i. get_or ps i r) i-n) at in
              absurd (other (ap (λ (p : TreeNode). p.height) (sym r-q ∙ same) ∙ l.0))
        ]
      ]);
      rest = λ i p r inside p-is r-is behind. up.rest i p r inside p-is r-is (elim behind [ inl l ↦ inl l | inr l ↦ inr (l.0, let b = l.1 in omega (arith, b)) ]);
    }

    -- a node of this height is not yet changed
    untouched : (p q : TreeNode) → n < length old → p ≡ get_or old n p → q ≡ get_or ps n q → q.height ≡ h → q ≡ p
    untouched p q lt p-is q-is high = elim (cases_lt p.height h) [
      | inl l ↦ absurd (omega (arith, l, high, (up.done n p q lt p-is q-is (inl l)).height))
      | inr ge ↦ elim (cases_lt h p.height) [
        | inl more ↦ up.rest n p q lt p-is q-is (inl more)
        | inr le ↦ up.rest n p q lt p-is q-is (inr (omega (arith, ge, le), omega arith))
      ]
    ]

    -- and is sifted
    pub next_node : (q : TreeNode) (new : List TreeNode) → n < length ps → q ≡ get_or ps n q → q.height ≡ h → IsSiftedAt ids ps n new → IsSiftedUpTo ids old h (n + 1) new
    next_node q new lt at high s = subst (IsSiftedUpTo ids old h (n + 1)) (sym s.nodes) (record {
      size = length-set ps n s.part ∙ up.size;
      done = λ i p r inside p-is r-is before. elim (eqb_tells i n) [
        | inl same ↦
            let c-is : c.0 ≡ get_or old i c.0 = c.1 ∙ ap (λ i. get_or old i c.0) (sym same.1) in
            let p-c : p ≡ c.0 = same_read old i p c.0 inside p-is c-is in
            let r-part : r ≡ s.part = r-is ∙ ap (λ i. get_or (set ps n s.part) i r) same.1 ∙ get_or-set_same ps n s.part r lt in
            subst (λ r. IsSiftedNode ids (set ps n s.part) p r) (sym r-part) (subst (λ p. IsSiftedNode ids (set ps n s.part) p s.part) (sym p-c) (stays n c.0 s.part there c.1 (omega arith) (s.sifted c.0 (sym q-c ∙ at ∙ get_or_default ps n q c.0 lt))))
        | inr other ↦
            let r-ps : r ≡ get_or ps i r = r-is ∙ get_or-set_other ps n i s.part r other.1 in
            let low : p.height ≤ c.0.height = elim before [ inl l ↦ lower p.height l | inr l ↦ omega (arith, l.0, c-high) ] in
            stays i p r inside p-is low (up.done i p r inside p-is r-ps (elim before [ inl l ↦ inl l | inr l ↦ inr (l.0, less i l.1 other.1) ]))
      ];
      rest = λ i p r inside p-is r-is behind.
          let other : i ≡ n → ⊥ = λ same. apart i p same p-is behind in
          up.rest i p r inside p-is (r-is ∙ get_or-set_other ps n i s.part r other) (elim behind [ inl l ↦ inl l | inr l ↦ inr (l.0, let b = l.1 in omega (arith, b)) ]);
    })
      where
        there : n < length old
        there = inside_old lt

        c : (c : TreeNode) × (c ≡ get_or old n c)
        c = node_at old n there

        q-c : q ≡ c.0
        q-c = untouched c.0 q there c.1 at high

        c-high : c.0.height ≡ h
        c-high = ap (λ (p : TreeNode). p.height) (sym q-c) ∙ high

        lower : (m : ℕ) → m < h → m ≤ c.0.height
        lower m l = omega (arith, l, c-high)

        less : (i : ℕ) → i < n + 1 → (i ≡ n → ⊥) → i < n
        less i lt other = elim (cases_lt i n) [ inl l ↦ l | inr ge ↦ absurd (other (omega (arith, lt, ge))) ]

        stays : (i : ℕ) (p r : TreeNode) → i < length old → p ≡ get_or old i p → p.height ≤ c.0.height → IsSiftedNode ids ps p r → IsSiftedNode ids (set ps n s.part) p r
        stays i p r inside p-is low by = record { height = by.height; sound = by.sound; kids = by.kids ∙ sym (left_apart ids ps n s.part p.height p.kids.items (lower_kids i n p c.0 inside p-is there c.1 low)) }

        apart : (i : ℕ) (p : TreeNode) → i ≡ n → p ≡ get_or old i p → (h < p.height) ⊎ ((p.height ≡ h) × (n + 1 ≤ i)) → ⊥
        apart i p same p-is (inl l) = let p-c = same_read old n p c.0 there (p-is ∙ ap (λ i. get_or old i p) same) c.1 in absurd (omega (arith, l, ap (λ (p : TreeNode). p.height) p-c, c-high))
        apart i p same p-is (inr l) = let b = l.1 in absurd (omega (arith, same, b))

  -- the next level
  pub next_level : (h n : ℕ) (ps : List TreeNode) → length ps ≤ n → IsSiftedUpTo ids old h n ps → IsSiftedUpTo ids old (h + 1) 0 ps
  next_level h n ps all up = record {
    size = up.size;
    done = λ i p q lt p-is q-is before. up.done i p q lt p-is q-is (elim before [
      | inl l ↦ elim (cases_lt p.height h) [ inl less ↦ inl less | inr ge ↦ inr (omega (arith, l, ge), omega (arith, lt, all, up.size)) ]
      | inr l ↦ absurd (let m = l.1 in omega (arith, m))
    ]);
    rest = λ i p q lt p-is q-is behind. up.rest i p q lt p-is q-is (inl (elim behind [ inl l ↦ omega (arith, l) | inr l ↦ omega (arith, l.0) ]));
  }

  -- each node is sifted
  pub all_sifted : (ps : List TreeNode) → IsSiftedUpTo ids old (root.height + 1) 0 ps → IsSifted ids old ps
  all_sifted ps up = record { size = up.size; each = λ i p q lt p-is q-is. up.done i p q lt p-is q-is (inl (low p i lt p-is)) }
    where
      low : (p : TreeNode) (i : ℕ) → i < length old → p ≡ get_or old i p → p.height < root.height + 1
      low p i lt p-is = let a = All-get_or (λ p. p.height ≤ root.height) old i p lt tree.low in omega (arith, a, ap (λ (p : TreeNode). p.height) p-is)

-- ---- the whole tree

-- the sum over the entries without some ids
pub left_listed : (ids : List ℕ) (g : EntryOf → ℕ) (es : List EntryOf) → sum_by g (without_ids ids es) ≡ sum_by (λ e. cond (is_among e.1 ids) 0 (g e)) es
left_listed ids g [] = refl
left_listed ids g (e ∷ es) = omega (arith, sum_by-cons (λ e. cond (is_among e.1 ids) 0 (g e)) e es, by_test (is_among e.1 ids), left_listed ids g es)
  where
    by_test : (b : Bool) → sum_by g (cond (not b) (e ∷ without_ids ids es) (without_ids ids es)) ≡ cond b 0 (g e) + sum_by g (without_ids ids es)
    by_test true = omega arith
    by_test false = sum_by-cons g e (without_ids ids es)

module _ (ids : List ℕ) (root : Ref) (old : List TreeNode) (tree : IsTree root old) (new : List TreeNode) (by : IsSifted ids old new) where
  -- the entries
  entries_after : (g : EntryOf → ℕ) → entries_sum g new ≡ entries_sum (λ e. cond (is_among e.1 ids) 0 (g e)) old
  entries_after g = paired_sums (leaf_of (λ e. cond (is_among e.1 ids) 0 (g e))) (leaf_of g) old new by.size one
    where
      w : Kid → ℕ
      w k = g (entry_of k)

      of_entry : (k : Kid) → sum_option w (left_entry ids k) ≡ cond (is_among (target k.1) ids) 0 (w k)
      of_entry k = by_test (is_among (target k.1) ids)
        where
          by_test : (b : Bool) → sum_option w (cond b None (Some k)) ≡ cond b 0 (w k)
          by_test true = refl
          by_test false = refl

      of_leaf : (b : Bool) (kids : List Kid) → cond b (sum_by w (filter_map (λ k. cond b (left_entry ids k) (left_node new k)) kids)) 0 ≡ cond b (sum_by (λ k. cond (is_among (target k.1) ids) 0 (w k)) kids) 0
      of_leaf true kids = sum_left w (left_entry ids) kids ∙ same_sums (λ k. sum_option w (left_entry ids k)) (λ k. cond (is_among (target k.1) ids) 0 (w k)) (λ k. Unit {0}) (λ k u. of_entry k) kids (λ i d lt. tt)
      of_leaf false kids = refl

      one : (i : ℕ) (p q : TreeNode) → i < length old → p ≡ get_or old i p → q ≡ get_or new i q → leaf_of g q ≡ leaf_of (λ e. cond (is_among e.1 ids) 0 (g e)) p
      one i p q lt p-is q-is =
          let s = by.each i p q lt p-is q-is in
          ap (λ (h : ℕ). leaf_sum g q.kids.items h) s.height ∙ ap (λ l. leaf_sum g l p.height) s.kids ∙ of_leaf (p.height == 0) p.kids.items

  -- a reference to a node afterwards
  abbrev ref_after : (Ref → ℕ) → ℕ → ℕ
  ref_after F n = sum_option (λ (p : TreeNode). live_of F n p) (slice_get new n)

  after_is : (F : Ref → ℕ) (n : ℕ) (q : TreeNode) → n < length old → q ≡ get_or new n q → ref_after F n ≡ live_of F n q
  after_is F n q lt is = ap (sum_option (λ (p : TreeNode). live_of F n p)) (slice_get_read new (length new) n q refl (omega (arith, lt, by.size)) is)

  nodes_after : (F : Ref → ℕ) → nodes_sum F 0 new ≡ nodes_sum (λ r. ref_after F r.node) 0 old
  nodes_after F = paired_nodes (λ r. ref_after F r.node) F 0 old new by.size one
    where
      none_of_none : (f : Kid → Option Kid) (kids left : List Kid) (n m : ℕ) → left ≡ filter_map f kids → m ≡ if_live left n → if_live left n ≡ if_live kids m
      none_of_none f [] left n m is same = ap (λ l. if_live l n) is
      none_of_none f (k ∷ kids) left n m is same = sym same

      one : (i : ℕ) (p q : TreeNode) → i < length old → p ≡ get_or old i p → q ≡ get_or new i q → live_of F (0 + i) q ≡ live_of (λ r. ref_after F r.node) (0 + i) p
      one i p q lt p-is q-is =
          let z : 0 + i ≡ i = omega arith in
          let s = by.each i p q lt p-is q-is in
          none_of_none (left_kid ids new p.height) p.kids.items q.kids.items (F (ref_of q (0 + i))) (ref_after F (0 + i)) s.kids (after_is F (0 + i) q (omega (arith, lt)) (q-is ∙ ap (λ i. get_or new i q) (sym z)))

  module _ (F : Ref → ℕ) (h : ℕ) where
    abbrev v : Kid → ℕ
    v k = F (record { area = k.0; node = target k.1; height = h })

    abbrev IsLower : Kid → Type 0
    IsLower k = (target k.1 < length old) × (height_at old (target k.1) ≡ h)

    of_kid : (k : Kid) → IsLower k → sum_option v (left_node new k) ≡ ref_after F (target k.1)
    of_kid k low = with_node (slice_get new m) refl
      where
        m : ℕ
        m = target k.1

        high : (c : TreeNode) → slice_get new m ≡ Some c → c.height ≡ h
        high c is =
            let o = node_at old m low.0 in
            let at : c ≡ get_or new m c = sym (get_or_from_slice_get new m c c is) in
            (by.each m o.0 c low.0 o.1 at).height ∙ sym (height_of old m o.0 low.0 o.1) ∙ low.1

        live : (c : TreeNode) (kids : List Kid) → c.height ≡ h → sum_option v (cond (length kids == 0) None (Some (c.area, k.1))) ≡ if_live kids (F (ref_of c m))
        live c [] up = refl
        live c (x ∷ xs) up = ap (λ b. sum_option v (cond b None (Some (c.area, k.1)))) (ne_eqb (suc (length xs)) 0 (λ z. absurd (omega (arith, z)))) ∙ ap (λ h. F (record { area = c.area; node = m; height = h })) (sym up)

        with_node : (o : Option TreeNode) → slice_get new m ≡ o → sum_option v (option_and_then (λ (p : TreeNode). cond (length p.kids.items == 0) None (Some (p.area, k.1))) o) ≡ sum_option (λ (p : TreeNode). live_of F m p) o
        with_node None is = refl
        with_node (Some c) is = live c c.kids.items (high c is)

    of_node : (kids : List Kid) → All IsLower kids → sum_by v (filter_map (left_node new) kids) ≡ sum_by (λ k. ref_after F (target k.1)) kids
    of_node kids all = sum_left v (left_node new) kids ∙ same_sums (λ k. sum_option v (left_node new k)) (λ k. ref_after F (target k.1)) IsLower of_kid kids all

  refs_after : (F : Ref → ℕ) → refs_sum F new ≡ refs_sum (λ r. ref_after F r.node) old
  refs_after F = paired_sums (links_of (λ r. ref_after F r.node)) (links_of F) old new by.size one
    where
      one : (i : ℕ) (p q : TreeNode) → i < length old → p ≡ get_or old i p → q ≡ get_or new i q → links_of F q ≡ links_of (λ r. ref_after F r.node) p
      one i p q lt p-is q-is = by_height p.height refl
        where
          s : IsSiftedNode ids new p q
          s = by.each i p q lt p-is q-is

          made : links_of F q ≡ kids_sum F p.height (filter_map (left_kid ids new p.height) p.kids.items)
          made = ap (λ h. kids_sum F h q.kids.items) s.height ∙ ap (kids_sum F p.height) s.kids

          by_height : (m : ℕ) → p.height ≡ m → links_of F q ≡ links_of (λ r. ref_after F r.node) p
          by_height zero e = made ∙ ap (λ m. kids_sum F m (filter_map (left_kid ids new p.height) p.kids.items)) e ∙ sym (ap (λ m. kids_sum (λ r. ref_after F r.node) m p.kids.items) e)
          by_height (suc h) e =
              let low : All (IsLower F h) p.kids.items = λ j d within. let k = get_or p.kids.items j d in tied_height root old tree i h j p k lt p-is e within (get_or_default p.kids.items j d k within) in
              let up : (p.height == 0) ≡ false = ne_eqb p.height 0 (λ z. absurd (omega (arith, e, z))) in
              made ∙ ap (λ m. kids_sum F m (filter_map (left_kid ids new p.height) p.kids.items)) e
              ∙ ap (λ b. sum_by (v F h) (filter_map (λ k. cond b (left_entry ids k) (left_node new k)) p.kids.items)) up
              ∙ of_node F h p.kids.items low
              ∙ sym (ap (λ m. kids_sum (λ r. ref_after F r.node) m p.kids.items) e)

  sound_after : All IsSoundNode new
  sound_after i d lt =
      let inside : i < length old = omega (arith, lt, by.size) in
      let p = node_at old i inside in
      let q = get_or new i d in
      (by.each i p.0 q inside p.1 (get_or_default new i d q lt)).sound

  low_after : All (λ p. p.height ≤ root.height) new
  low_after i d lt =
      let inside : i < length old = omega (arith, lt, by.size) in
      let p = node_at old i inside in
      let q = get_or new i d in
      let s = by.each i p.0 q inside p.1 (get_or_default new i d q lt) in
      omega (arith, s.height, All-get_or (λ p. p.height ≤ root.height) old i p.0 inside tree.low, ap (λ (p : TreeNode). p.height) p.1)

  once_after : (F : Ref → ℕ) → ref_after F root.node + refs_sum F new ≡ nodes_sum F 0 new
  once_after F = omega (arith, tree.once (λ r. ref_after F r.node), refs_after F, nodes_after F)

  -- an entry is left, and the result is the box of the root
  pub tree_left : (c : TreeNode) → c ≡ get_or new root.node c → 0 < length c.kids.items → IsTreeLeft root ids old (Some c.area) new
  tree_left c is live = (
    record {
      once = λ F. omega (arith, once_after F, after_is F root.node c there is, live_is c.kids.items (F (ref_of c root.node)) live, ap (λ h. F (record { area = c.area; node = root.node; height = h })) high);
      sound = sound_after;
      low = low_after;
    },
    λ g. omega (arith, entries_listed g new, entries_after g, entries_listed (λ e. cond (is_among e.1 ids) 0 (g e)) old, left_listed ids g (entries_list old)),
  )
    where
      there : root.node < length old
      there = root_there root old tree

      high : c.height ≡ root.height
      high =
          let p = node_at old root.node there in
          (by.each root.node p.0 c there p.1 is).height ∙ sym (height_of old root.node p.0 there p.1) ∙ root_height root old tree

  -- no entry is left
  pub tree_gone : (c : TreeNode) → c ≡ get_or new root.node c → length c.kids.items ≡ 0 → IsTreeLeft root ids old None new
  tree_gone c is dead g =
      let gone : (kids : List Kid) (n : ℕ) → length kids ≡ 0 → if_live kids n ≡ 0 = λ kids n h. no_live kids n h in
      let dead = all_dead g new root.height sound_after low_after (λ F. omega (arith, once_after F, after_is F root.node c (root_there root old tree) is, gone c.kids.items (F (ref_of c root.node)) dead)) in
      let all : sum_by (entries_of (λ _. true) g) new ≡ entries_sum g new = passed_sum (λ _. true) g new ∙ entries_listed g new in
      omega (arith, dead, all, entries_after g, entries_listed (λ e. cond (is_among e.1 ids) 0 (g e)) old, left_listed ids g (entries_list old))
    where
      no_live : (kids : List Kid) (n : ℕ) → length kids ≡ 0 → if_live kids n ≡ 0
      no_live [] n h = refl
      no_live (k ∷ kids) n h = absurd (omega (arith, h))
