-- The columns of a select list, one item after another, and those of GROUP BY.
use Rattle.std.{proofs.Common.{◌≡◌, ◌∙◌, ◌<◌, ◌+◌, sym, ap, ℕ, List, [], ◌∷◌, length, map, drop, get_or, ◌++◌, ◌≤◌, Option, Result, Ok}, proofs.lemmas.List.{drop_more, drop_all}}
use Rattle.mob_ast.{specs.declared.expression.Expr.{Expr}, specs.declared.statement.Item.{Item}, specs.Trees.{tree_of, item_of}}
use Rattle.mob_typed.{specs.Trees.{TypedTree}, specs.declared.typed.ConstText.{ConstText}}
use Rattle.mob_list.specs.declared.fault.Fault.{Fault}
use Rattle.mob_scope.{specs.Answers.{◌>>=◌, StopsTyping}, specs.declared.fault.Mistake.{Mistake}, specs.Scopes.{ScopeParts}}
use Rattle.mob_expression.proofs.Wrongs.{fails_along, fails_bind}
use Rattle.mob_clauses.{specs.Keys.{typed_group, with_groups}, specs.Outputs.{ColumnNumbers, OutputLists, with_item, with_items}}

-- the columns of a select list, if the items before this position are typed
module _ (s : ScopeParts) (g : Option (List ColumnNumbers)) (items : List Item) (i : ℕ) (o : OutputLists) (cs : List ConstText) (whole : Result (OutputLists × List ConstText) Mistake)
    (so_far : whole ≡ with_items s g o (map item_of (drop i items)) cs) where
  module _ (x : Item) (within : i < length items) (at : x ≡ get_or items i x) where
    abbrev others : OutputLists × List ConstText → Result (OutputLists × List ConstText) Mistake
    others r = with_items s g r.0 (map item_of (drop (i + 1) items)) r.1

    next : whole ≡ (with_item s g o (item_of x) cs >>= others)
    next = so_far ∙ ap (λ ys. with_items s g o (map item_of ys) cs) (drop_more items i x within ∙ ap (λ y. y ∷ drop (i + 1) items) (sym at))

    pub item_fails : (e : Fault Mistake) → StopsTyping e (with_item s g o (item_of x) cs) → StopsTyping e whole
    item_fails e h = fails_along e (with_item s g o (item_of x) cs >>= others) whole next (fails_bind e (with_item s g o (item_of x) cs) others h)

    pub item_made : (p : OutputLists) (ds : List ConstText) → with_item s g o (item_of x) cs ≡ Ok (p, ds) → whole ≡ with_items s g p (map item_of (drop (i + 1) items)) ds
    item_made p ds h = next ∙ ap (λ r. r >>= others) h

  pub items_made : drop i items ≡ [] → whole ≡ Ok (o, cs)
  items_made gone = so_far ∙ ap (λ ys. with_items s g o (map item_of ys) cs) gone

-- the columns of GROUP BY, if those before this position are typed
module _ (s : ScopeParts) (groups : List Expr) (i : ℕ) (done : List TypedTree) (whole : Result (List TypedTree) Mistake) (so_far : whole ≡ with_groups s done (map tree_of (drop i groups))) where
  module _ (x : Expr) (within : i < length groups) (at : x ≡ get_or groups i x) where
    abbrev later : TypedTree → Result (List TypedTree) Mistake
    later g = with_groups s (done ++ g ∷ []) (map tree_of (drop (i + 1) groups))

    next_group : whole ≡ (typed_group s (tree_of x) >>= later)
    next_group = so_far ∙ ap (λ ys. with_groups s done (map tree_of ys)) (drop_more groups i x within ∙ ap (λ y. y ∷ drop (i + 1) groups) (sym at))

    pub group_fails : (e : Fault Mistake) → StopsTyping e (typed_group s (tree_of x)) → StopsTyping e whole
    group_fails e h = fails_along e (typed_group s (tree_of x) >>= later) whole next_group (fails_bind e (typed_group s (tree_of x)) later h)

    pub group_made : (g : TypedTree) (after : List TypedTree) → typed_group s (tree_of x) ≡ Ok g → after ≡ done ++ g ∷ [] → whole ≡ with_groups s after (map tree_of (drop (i + 1) groups))
    group_made g after h pushed = next_group ∙ ap (λ r. r >>= later) h ∙ ap (λ d. with_groups s d (map tree_of (drop (i + 1) groups))) (sym pushed)

  pub groups_made : length groups ≤ i → whole ≡ Ok done
  groups_made last = so_far ∙ ap (λ ys. with_groups s done (map tree_of ys)) (drop_all i groups last)
