-- The nodes of expressions at a place of the script, and the places that an expression names.
use Rattle.std.specs.List.{AllByRecursion}
use Rattle.std.proofs.Common.{◌≡◌, ◌<◌, ◌≤◌, ◌+◌, ◌==◌, ◌&&◌, ◌||◌, ◌++◌, ◌∷◌, [], ℕ, Bool, true, false, List, Option, Some, None, length, drop, map, get_or, refl, sym, ap, subst, ◌∙◌, arith}
use Rattle.std.{proofs.Common.{append_assoc, append-nil, true≢false}, proofs.lemmas.List.{drop_all}, proofs.lemmas.Bool.{and_parts, false_from_ne_true}}
use Rattle.mob_list.{proofs.Each.{each_both}, proofs.Entries.{drop_read}}
use Rattle.mob_operators.specs.declared.operator.Op.{Op}
use Rattle.mob_typed.{specs.declared.typed.TExpr.{TExpr}, specs.declared.typed.TExpr.TheViews.{out-TExpr}, specs.Trees.{TypedTree, typed, TypedTrees, none, more, typed_of, typed_trees}}
use Rattle.mob_typed.proofs.TreeFacts.{typed_is}
use Rattle.mob_meaning.specs.Depends.{names, any_names, reads, NamesOnly}
use Rattle.mob_eval.{specs.SoFar.{trees}, specs.Remembered.{Recollection, IsOfPlace, AreCopies, names_only, all_name_only, reads_only, place_of, nodes_here, nodes_at, all_nodes_at}}
use Rattle.mob_operators.specs.declared.operator.Op.TheVariants as op

either_true : {X : Type 0} → (a b : Bool) → (a ≡ true → X) → (b ≡ true → X) → (a || b) ≡ true → X
either_true true b f g h = f refl
either_true false b f g h = g h

-- ---- the named places

pub same_if : (a b : ℕ) → (a == b) ≡ true → a ≡ b
same_if a b h = grind (arith, h)

reads_there : (place other : ℕ) (o : Op) → reads_only (Some place) o ≡ true → reads other o ≡ true → other ≡ place
reads_there place other (op.Column from column) h r = sym (same_if from other r) ∙ same_if from place h
reads_there place other _ h r = absurd (true≢false (sym r))

reads_nothing : {X : Type 0} → (other : ℕ) (o : Op) → reads_only None o ≡ true → reads other o ≡ true → X
reads_nothing other (op.Column from column) h r = absurd (true≢false (sym h))
reads_nothing other _ h r = absurd (true≢false (sym r))

mutual
  named_there : (place other : ℕ) (e : TypedTree) → names_only (Some place) e ≡ true → names other e ≡ true → other ≡ place
  named_there place other (typed o ty at args) h n =
      let both = and_parts (reads_only (Some place) o) (all_name_only (Some place) args) h in
      either_true (reads other o) (any_names other args) (reads_there place other o both.0) (all_named_there place other args both.1) n

  all_named_there : (place other : ℕ) (es : TypedTrees) → all_name_only (Some place) es ≡ true → any_names other es ≡ true → other ≡ place
  all_named_there place other none h n = absurd (true≢false (sym n))
  all_named_there place other (more e es) h n =
      let both = and_parts (names_only (Some place) e) (all_name_only (Some place) es) h in
      either_true (names other e) (any_names other es) (named_there place other e both.0) (all_named_there place other es both.1) n

mutual
  named_nowhere : {X : Type 0} → (other : ℕ) (e : TypedTree) → names_only None e ≡ true → names other e ≡ true → X
  named_nowhere other (typed o ty at args) h n =
      let both = and_parts (reads_only None o) (all_name_only None args) h in
      either_true (reads other o) (any_names other args) (reads_nothing other o both.0) (all_named_nowhere other args both.1) n

  all_named_nowhere : {X : Type 0} → (other : ℕ) (es : TypedTrees) → all_name_only None es ≡ true → any_names other es ≡ true → X
  all_named_nowhere other none h n = absurd (true≢false (sym n))
  all_named_nowhere other (more e es) h n =
      let both = and_parts (names_only None e) (all_name_only None es) h in
      either_true (names other e) (any_names other es) (named_nowhere other e both.0) (all_named_nowhere other es both.1) n

pub names_alone : (place : Option ℕ) (e : TypedTree) → names_only place e ≡ true → NamesOnly place e
names_alone (Some place) e h = λ other n. named_there place other e h n
names_alone None e h = λ other. false_from_ne_true (names other e) (named_nowhere other e h)

-- ---- the nodes at a place

pub nodes_are : (at : ℕ) (e : TExpr) → nodes_at at (typed_of e) ≡ nodes_here (place_of (typed_of e) == at) (typed_of e) ++ all_nodes_at at (trees (out-TExpr e).args.items)
nodes_are at e = subst (λ t. nodes_at at t ≡ nodes_here (place_of t == at) t ++ all_nodes_at at (trees (out-TExpr e).args.items)) (sym (typed_is e)) refl

-- with the nodes of the first i entries of a list
pub next_nodes : {X : Type 0} → (see : X → TypedTree) (at : ℕ) (whole ys : List TypedTree) (xs : List X) (i : ℕ) (x : X) → i < length xs → x ≡ get_or xs i x → whole ≡ ys ++ all_nodes_at at (typed_trees (map see (drop i xs)))
    → whole ≡ (ys ++ nodes_at at (see x)) ++ all_nodes_at at (typed_trees (map see (drop (i + 1) xs)))
next_nodes see at whole ys xs i x lt is h =
    h ∙ ap (λ zs. ys ++ all_nodes_at at (typed_trees (map see zs))) (drop_read xs i x lt is) ∙ sym (append_assoc ys (nodes_at at (see x)) (all_nodes_at at (typed_trees (map see (drop (i + 1) xs)))))

pub last_nodes : {X : Type 0} → (see : X → TypedTree) (at : ℕ) (whole ys : List TypedTree) (xs : List X) (i : ℕ) → length xs ≤ i → whole ≡ ys ++ all_nodes_at at (typed_trees (map see (drop i xs))) → whole ≡ ys
last_nodes see at whole ys xs i past h = h ∙ ap (λ zs. ys ++ all_nodes_at at (typed_trees (map see zs))) (drop_all i xs past) ∙ append-nil ys

pub of_place : (c : Recollection) (roots : List TypedTree) (at : ℕ) (place : Option ℕ) (e : TExpr) → c.roots ≡ roots → AreCopies (typed_of e) (all_nodes_at at (typed_trees roots)) → names_only place (typed_of e) ≡ true → IsOfPlace c at place
of_place c roots at place e same is only = (typed_of e, subst (λ rs. AreCopies (typed_of e) (all_nodes_at at (typed_trees rs))) (sym same) is, names_alone place (typed_of e) only)

-- ---- equal nodes

copies_of : (e f : TypedTree) (xs : List TypedTree) → e ≡ f → AreCopies f xs → AllByRecursion (λ y. y ≡ e) xs
copies_of e f [] same h = elim h [ ]
copies_of e f (x ∷ xs) same h = subst (λ z. AllByRecursion (λ y. y ≡ z) (x ∷ xs)) (sym same) h

pub copies_both : (e f : TypedTree) (xs ys : List TypedTree) → e ≡ f → AreCopies e xs → AreCopies f ys → AreCopies e (xs ++ ys)
copies_both e f [] ys same h k = elim h [ ]
copies_both e f (x ∷ xs) ys same h k = (h.0, each_both (λ z. z ≡ e) xs ys h.1 (copies_of e f ys same k))

-- two expressions with the same operator, type and place, and equal arguments
pub same_node : (e f : TExpr) → (out-TExpr e).op ≡ (out-TExpr f).op → (out-TExpr e).ty ≡ (out-TExpr f).ty → (out-TExpr e).place ≡ (out-TExpr f).place
    → map typed_of (out-TExpr e).args.items ≡ map typed_of (out-TExpr f).args.items → typed_of e ≡ typed_of f
same_node e f o ty p args = typed_is e ∙ (λ i. typed (o i) (ty i) (p i) (typed_trees (args i))) ∙ sym (typed_is f)

-- ---- the loops

-- two lists of nodes are the same trees if their heads and their tails are
pub same_front : (xs ys us vs : List TExpr) (x y : TExpr) → xs ≡ x ∷ us → ys ≡ y ∷ vs → typed_of x ≡ typed_of y → map typed_of us ≡ map typed_of vs → map typed_of xs ≡ map typed_of ys
same_front xs ys us vs x y ex ey h hs = ap (map typed_of) ex ∙ (λ i. h i ∷ hs i) ∙ sym (ap (map typed_of) ey)

pub names_begin : (place : Option ℕ) (e : TExpr) (xs : List TExpr) → reads_only place (out-TExpr e).op ≡ true → xs ≡ (out-TExpr e).args.items → names_only place (typed_of e) ≡ all_name_only place (trees xs)
names_begin place e xs h ex = ap (names_only place) (typed_is e) ∙ ap (λ b. b && all_name_only place (trees (out-TExpr e).args.items)) h ∙ ap (λ ys. all_name_only place (trees ys)) (sym ex)

pub names_next : (place : Option ℕ) (b : Bool) (xs us : List TExpr) (x : TExpr) → b ≡ all_name_only place (trees xs) → xs ≡ x ∷ us → names_only place (typed_of x) ≡ true → b ≡ all_name_only place (trees us)
names_next place b xs us x h ex n = h ∙ ap (λ ys. all_name_only place (trees ys)) ex ∙ ap (λ t. t && all_name_only place (trees us)) n
