-- Places change no value of an expression, and none of the tuples that a query keeps.
use Rattle.std.specs.Prelude.{is_some, option_and_then, option_map, slice_get}
use Rattle.std.proofs.Common.{◌≡◌, ◌∙◌, ◌⊎◌, refl, sym, ap, ap₂, subst, ℕ, zero, suc, Bool, true, false, List, [], ◌∷◌, map, Option, Some, None, Ok}
use Rattle.mob_ast.specs.declared.types.SqlType.{SqlType}
use Rattle.mob_typed.{specs.Trees.{TypedTree, typed, TypedTrees, none, more, arg_types, type_of}, specs.Selects.{TypedSelectParts, on_of}}
use Rattle.mob_value.{specs.declared.value.Value.{Value}, specs.declared.value.Value.TheVariants.{Bool as Truth}, specs.declared.store.Store.{Store}}
use Rattle.mob_meaning.{specs.Scene.{Scene, scene}, specs.Operators.{OperatorGives, IsFirstFormula}, specs.Evaluation.{OperandsEvaluateTo, TreeEvaluatesTo, stop_of, stops}}
use Rattle.mob_meaning.specs.Values.{OperandsHaveValues, TreeHasValue}
use Rattle.mob_catalog.{specs.Catalogue.{Catalogue, live_of}, specs.declared.catalog.TableHead.{TableHead}}
use Rattle.mob_tuples.specs.Visits.{Conditions, Meeting, Visit}
use Rattle.mob_join.{specs.KeptTuples.{AreThoseThatMeet}, specs.Query.{IsKept, IsMet, condition_at, conditions}, proofs.KeptTuples.{those_once}}
use Rattle.mob_shell.specs.SameAnswers.{DifferInIndexes}
use Rattle.mob_laws.specs.IndexScripts.{all_unplaced, unplaced, unplaced_select}
use mathlib.Core.Path.{transport}
use Rattle.mob_meaning.specs.declared.terms.Terms.{Terms}

-- ---- expressions

type_same : (e : TypedTree) → type_of e ≡ type_of (unplaced e)
type_same (typed o ty place args) = refl

types_same : (es : TypedTrees) → arg_types es ≡ arg_types (all_unplaced es)
types_same none = refl
types_same (more e es) = ap₂ (λ (t : SqlType) (ts : List SqlType). t ∷ ts) (type_same e) (types_same es)

mutual
  pub value_same : (s : Scene) (e : TypedTree) (v : Value) → TreeHasValue s e v ≡ TreeHasValue s (unplaced e) v
  value_same s (typed o ty place args) v = λ i. (vs : List Value) × values_same s (stop_of o) args vs i × OperatorGives s o ty (types_same args i) vs v

  values_same : (s : Scene) (stop : Option Bool) (es : TypedTrees) (vs : List Value) → OperandsHaveValues s stop es vs ≡ OperandsHaveValues s stop (all_unplaced es) vs
  values_same s stop none vs = refl
  values_same s stop (more e rest) [] = refl
  values_same s stop (more e rest) (v ∷ vs) = λ i. value_same s e v i × (((stops stop v ≡ true) × (vs ≡ [])) ⊎ ((stops stop v ≡ false) × values_same s stop rest vs i))

mutual
  pub evaluated_same : (s : Scene) (e : TypedTree) (v : Value) → TreeEvaluatesTo s e (Ok v) ≡ TreeEvaluatesTo s (unplaced e) (Ok v)
  evaluated_same s (typed o ty place args) v = λ i. (vs : List Value) × operands_same s (stop_of o) args vs i × IsFirstFormula s.terms.mode o ty (types_same args i) vs None × OperatorGives s o ty (types_same args i) vs v

  operands_same : (s : Scene) (stop : Option Bool) (es : TypedTrees) (vs : List Value) → OperandsEvaluateTo s stop es (Ok vs) ≡ OperandsEvaluateTo s stop (all_unplaced es) (Ok vs)
  operands_same s stop none vs = refl
  operands_same s stop (more e rest) [] = refl
  operands_same s stop (more e rest) (v ∷ vs) = λ i. evaluated_same s e v i × (((stops stop v ≡ true) × (vs ≡ [])) ⊎ ((stops stop v ≡ false) × operands_same s stop rest vs i))

pub evaluated_bare : (s : Scene) (e : TypedTree) (v : Value) → TreeEvaluatesTo s e (Ok v) → TreeEvaluatesTo s (unplaced e) (Ok v)
evaluated_bare s e v h = transport (evaluated_same s e v) h

-- ---- conditions

-- the entry of this number, of optional things, changes as each does
pub picked_same : {A B : Type 0} (f : A → B) (os : List (Option A)) (n : ℕ) → option_map f (option_and_then (λ o. o) (slice_get os n)) ≡ option_and_then (λ o. o) (slice_get (map (option_map f) os) n)
picked_same f [] n = refl
picked_same f (o ∷ os) zero = refl
picked_same f (o ∷ os) (suc n) = picked_same f os n

there_same : {A B : Type 0} (f : A → B) (o : Option A) → is_some o ≡ is_some (option_map f o)
there_same f None = refl
there_same f (Some x) = refl

met_same : (e : Option TypedTree) (s : Scene) → IsMet e s ≡ IsMet (option_map unplaced e) s
met_same None s = refl
met_same (Some e) s = value_same s e (Truth true)

condition_same : (q : TypedSelectParts) (on : Option ℕ) → option_map unplaced (condition_at q on) ≡ condition_at (unplaced_select q) on
condition_same q None = refl
condition_same q (Some place) = picked_same unplaced q.joins place

joined_same : (q : TypedSelectParts) (place : ℕ) → is_some (on_of q.joins place) ≡ is_some (on_of (unplaced_select q).joins place)
joined_same q place = there_same unplaced (on_of q.joins place) ∙ ap (λ (o : Option TypedTree). is_some o) (picked_same unplaced q.joins place)

conditions_same : (q : TypedSelectParts) → conditions q ≡ conditions (unplaced_select q)
conditions_same q = λ i. record { joined = λ place. joined_same q place i; filtered = there_same unplaced q.cond i }

-- ---- the kept tuples

-- the visits for which the condition is true, on a store
abbrev meets : TypedSelectParts → Store → Terms → Meeting
meets q store terms visit = IsMet (condition_at q visit.on) (scene store q.from visit.tuple terms)

meets_same : (q : TypedSelectParts) (store : Store) (terms : Terms) (visit : Visit) → meets q store terms visit ≡ meets (unplaced_select q) store terms visit
meets_same q store terms visit =
    let s : Scene = scene store q.from visit.tuple terms in
    met_same (condition_at q visit.on) s ∙ ap (λ (e : Option TypedTree). IsMet e s) (condition_same q visit.on)

-- the tuples for which WHERE is true, by the live rows of the tables
abbrev MeetBy : Conditions → Meeting → List ℕ → List TableHead → List (List ℕ) → Type 0
MeetBy c M from heads kept = AreThoseThatMeet c M (live_of heads) from kept

abbrev MeetOn : Terms → List (List ℕ) → TypedSelectParts → Store → List TableHead → Type 0
MeetOn terms kept q store heads = MeetBy (conditions q) (meets q store terms) q.from heads kept

kept_same : (terms : Terms) (kept : List (List ℕ)) (q : TypedSelectParts) (store : Store) (heads : List TableHead) → MeetOn terms kept q store heads ≡ MeetOn terms kept (unplaced_select q) store heads
kept_same terms kept q store heads = λ i. MeetBy (conditions_same q i) (λ visit. meets_same q store terms visit i) q.from heads kept

-- queries that differ in places, over catalogues that differ in indexes, keep the same tuples if
-- neither has a fault
pub kept_alike : (terms : Terms) (p q : TypedSelectParts) (c d : Catalogue) (kept others : List (List ℕ)) → unplaced_select p ≡ unplaced_select q → DifferInIndexes c d → IsKept p c terms (Ok kept) → IsKept q d terms (Ok others) → kept ≡ others
kept_alike terms p q c d kept others same differ h k =
    let bare : MeetOn terms others (unplaced_select q) d.store d.heads = transport (kept_same terms others q d.store d.heads) k.1 in
    let placed : MeetOn terms others (unplaced_select p) d.store d.heads = subst (λ (r : TypedSelectParts). MeetOn terms others r d.store d.heads) (sym same) bare in
    let own : MeetOn terms others p d.store d.heads = transport (sym (kept_same terms others p d.store d.heads)) placed in
    let stored : MeetOn terms others p c.store d.heads = subst (λ (store : Store). MeetOn terms others p store d.heads) (sym differ.store) own in
    let there : MeetOn terms others p c.store c.heads = subst (λ (heads : List TableHead). MeetOn terms others p c.store heads) (sym differ.heads) stored in
    those_once (conditions p) (meets p c.store terms) (live_of c.heads) p.from kept others h.1 there
