-- How sums over a forest change when a level is packed.
use Rattle.std.proofs.Common.{◌≡◌, refl, ℕ, zero, suc, ◌+◌, ◌<◌, ◌≤◌, Bool, true, false, cond, not, ◌==◌, ◌&&◌, List, [], ◌∷◌, ◌++◌, length, map, arith, ap, sym, ◌∙◌, subst}
use Rattle.std.{specs.Prelude.{All, sum_by, count_by}, proofs.lemmas.Bool.Decides.{nat_tests}, proofs.lemmas.List.Sums.{sum_by-cons, sum_by-append}}
use Rattle.std.proofs.lemmas.List.Elements.{All-head, All-tail, All-append, All-cons, All-nil, All-weaker}
use Rattle.mob_stbox.specs.Boxes.{is_whole}
use Rattle.mob_rtree_nodes.specs.Tree.{Kid, EntryOf, entry_of, target, Ref, IsSoundNode, AreLive, is_fit, nodes_sum, kids_sum, refs_sum, entries_sum, entries_list, AreSame}
use Rattle.mob_rtree_nodes.{specs.Builds.{kid_of, leaf_sum, IsForest, IsPacking, IsClosed}, specs.declared.node.Child.TheVariants.{Node}, specs.declared.node.TreeNode.{TreeNode}}
use Rattle.mob_rtree_nodes.{proofs.Sums.{mapped_sum, live_is}, proofs.Walks.{kids_nil}, proofs.Inserts.{ref_of, links_of, leaf_of, leaf_nil, nodes_append, node_fit}, proofs.Roots.{entries_listed}}

kids_push : (f : Ref → ℕ) (h : ℕ) (xs ys : List Kid) → kids_sum f h (xs ++ ys) ≡ kids_sum f h xs + kids_sum f h ys
kids_push f zero xs ys = refl
kids_push f (suc h) xs ys = sum_by-append (λ k. f (record { area = k.0; node = target k.1; height = h })) xs ys

leaf_push : (g : EntryOf → ℕ) (h : ℕ) (xs ys : List Kid) → leaf_sum g (xs ++ ys) h ≡ leaf_sum g xs h + leaf_sum g ys h
leaf_push g h xs ys = by_test (h == 0)
  where
    w : Kid → ℕ
    w k = g (entry_of k)

    by_test : (b : Bool) → cond b (sum_by w (xs ++ ys)) 0 ≡ cond b (sum_by w xs) 0 + cond b (sum_by w ys) 0
    by_test true = sum_by-append w xs ys
    by_test false = refl

count_push : (test : Kid → Bool) (xs : List Kid) (k : Kid) → count_by (λ k. not (test k)) xs ≡ 0 → test k ≡ true → count_by (λ k. not (test k)) (xs ++ k ∷ []) ≡ 0
count_push test xs k none passes =
    let w : Kid → ℕ = λ k. cond (not (test k)) 1 0 in
    omega (arith, sum_by-append w xs (k ∷ []), sum_by-cons w k [], none, ap {B = ℕ} (λ b. cond (not b) 1 0) passes)

pub packing_start : (h : ℕ) (kids : List Kid) (ps : List TreeNode) → IsForest h kids ps → IsPacking h ps [] ps [] []
packing_start h kids ps by =
    record {
      once = λ f. omega (arith, kids_nil f h, kids_nil f (suc h));
      entries = λ g. refl;
      sound = by.sound;
      low = All-weaker (λ p. p.height < h) (λ p. p.height ≤ h) (λ p l. omega (arith, l)) ps by.low;
      live = by.live;
      fit = refl;
      waits = refl;
    }

pub packing_push : (h : ℕ) (old : List TreeNode) (came : List Kid) (ps : List TreeNode) (above waiting : List Kid) (kid : Kid) → IsPacking h old came ps above waiting → is_fit h kid ≡ true → IsPacking h old (came ++ kid ∷ []) ps above (waiting ++ kid ∷ [])
packing_push h old came ps above waiting kid by fit =
    record {
      once = λ f. omega (arith, by.once f, kids_push f h came (kid ∷ []), kids_push f h waiting (kid ∷ []));
      entries = λ g. omega (arith, by.entries g, leaf_push g h came (kid ∷ []), leaf_push g h waiting (kid ∷ []));
      sound = by.sound;
      low = by.low;
      live = by.live;
      fit = by.fit;
      waits = count_push (is_fit h) waiting kid by.waits fit;
    }

pub packing_close : (h : ℕ) (old : List TreeNode) (came : List Kid) (ps : List TreeNode) (above waiting : List Kid) (new : List TreeNode) (beyond : List Kid) → 0 < length waiting → IsPacking h old came ps above waiting → IsClosed h ps above waiting new beyond → IsPacking h old came new beyond []
packing_close h old came ps above waiting new beyond some by closed =
    let part = closed.part in
    let k : Kid = (part.area, Node (length ps)) in
    let live : 0 < length part.kids.items = omega (arith, some, ap (λ (l : List Kid). length l) closed.kids) in
    record {
      once = λ f.
          let zero-is : 0 + length ps ≡ length ps = omega arith in
          let r : Ref = record { area = part.area; node = length ps; height = h } in
          omega (
            arith,
            by.once f,
            ap (nodes_sum f 0) closed.nodes,
            nodes_append f 0 ps (part ∷ []),
            ap (λ i. nodes_sum f i (part ∷ [])) zero-is,
            live_is part.kids.items (f (ref_of part (length ps))) live,
            ap (λ h. f (record { area = part.area; node = length ps; height = h })) closed.height,
            ap (refs_sum f) closed.nodes,
            sum_by-append (links_of f) ps (part ∷ []),
            sum_by-cons (links_of f) part [],
            ap (λ h. kids_sum f h part.kids.items) closed.height,
            ap (kids_sum f h) closed.kids,
            ap (kids_sum f (suc h)) closed.listed,
            kids_push f (suc h) above (k ∷ []),
            sum_by-cons (λ k. f (record { area = k.0; node = target k.1; height = h })) k [],
            kids_nil f h,
          );
      entries = λ g. omega (
        arith,
        by.entries g,
        ap (entries_sum g) closed.nodes,
        sum_by-append (leaf_of g) ps (part ∷ []),
        sum_by-cons (leaf_of g) part [],
        ap (λ h. leaf_sum g part.kids.items h) closed.height,
        ap (λ l. leaf_sum g l h) closed.kids,
        leaf_nil g h,
      );
      sound = subst (All IsSoundNode) (sym closed.nodes) (All-append IsSoundNode ps (part ∷ []) by.sound (All-cons IsSoundNode part [] closed.sound (All-nil IsSoundNode)));
      low = subst (All (λ p. p.height ≤ h)) (sym closed.nodes) (All-append (λ p. p.height ≤ h) ps (part ∷ []) by.low (All-cons (λ p. p.height ≤ h) part [] (omega (arith, closed.height)) (All-nil (λ p. p.height ≤ h))));
      live = subst AreLive (sym closed.nodes) (All-append (λ p. 0 < length p.kids.items) ps (part ∷ []) by.live (All-cons (λ p. 0 < length p.kids.items) part [] live (All-nil (λ p. 0 < length p.kids.items))));
      fit = ap (count_by (λ k. not (is_fit (suc h) k))) closed.listed ∙ count_push (is_fit (suc h)) above k by.fit (let up : suc h ≡ h + 1 = omega arith in ap (λ h. is_fit h k) up ∙ node_fit h (length ps) part.area closed.sound.whole);
      waits = refl;
    }

pub forest_up : (h : ℕ) (kids : List Kid) (old ps : List TreeNode) (above : List Kid) → IsForest h kids old → IsPacking h old kids ps above [] → IsForest (h + 1) above ps
forest_up h kids old ps above from by =
    let up : suc h ≡ h + 1 = omega arith in
    subst (λ n. IsForest n above ps) up
    (record {
      once = λ f. omega (arith, from.once f, by.once f, kids_nil f h);
      sound = by.sound;
      low = All-weaker (λ p. p.height ≤ h) (λ p. p.height < suc h) (λ p l. omega (arith, l)) ps by.low;
      live = by.live;
      fit = by.fit;
    })

-- entries are a forest without nodes
pub forest_start : (kids : List Kid) → count_by (λ k. not (is_fit 0 k)) kids ≡ 0 → IsForest 0 kids []
forest_start kids fit = record { once = λ f. refl; sound = All-nil IsSoundNode; low = All-nil (λ p. p.height < 0); live = All-nil (λ p. 0 < length p.kids.items); fit = fit }

pub full_some : (n : ℕ) → (n == 16) ≡ true → 0 < n
full_some n h = grind (arith, nat_tests)

-- entries as the children of a leaf
pub entry_fits : (es : List EntryOf) → All (λ e. is_whole e.0 ≡ true) es → count_by (λ k. not (is_fit 0 k)) (map kid_of es) ≡ 0
entry_fits [] all = refl
entry_fits (e ∷ es) all =
    let w : Kid → ℕ = λ k. cond (not (is_fit 0 k)) 1 0 in
    let o = ap {B = ℕ} (λ b. cond (not (b && true)) 1 0) (All-head (λ e. is_whole e.0 ≡ true) e es all) in
    omega (arith, sum_by-cons w (kid_of e) (map kid_of es), o, entry_fits es (All-tail (λ e. is_whole e.0 ≡ true) e es all))

pub fits_arranged : (kids new : List Kid) → ((f : Kid → ℕ) → sum_by f new ≡ sum_by f kids) → count_by (λ k. not (is_fit 0 k)) kids ≡ 0 → count_by (λ k. not (is_fit 0 k)) new ≡ 0
fits_arranged kids new same none = same (λ k. cond (not (is_fit 0 k)) 1 0) ∙ none

-- the entries of a built tree
pub built_same : (es : List EntryOf) (kids : List Kid) (ps : List TreeNode) → ((f : Kid → ℕ) → sum_by f kids ≡ sum_by f (map kid_of es)) → ((g : EntryOf → ℕ) → entries_sum g ps ≡ entries_sum g [] + leaf_sum g kids 0) → AreSame (entries_list ps) es
built_same es kids ps same sums g = omega (arith, entries_listed g ps, sums g, same (λ k. g (entry_of k)), mapped_sum (λ k. g (entry_of k)) kid_of es)
