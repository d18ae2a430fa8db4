-- Places change no group, and no value of an aggregate.
use Rattle.std.{specs.Prelude.{Result, option_map}, specs.List.{AllZip}, proofs.Common.{◌≡◌, ◌∙◌, inl, inr, refl, subst, not, ℕ, ◌+◌, Bool, List, [], ◌∷◌, ◌++◌, map, Option, Some, None, Ok}}
use Rattle.mob_operators.{specs.declared.aggregate.AggKind.{AggKind}, specs.declared.aggregate.AggKind.TheVariants.{CountAll}}
use Rattle.mob_slice.specs.declared.formula.Formula.{Formula}
use Rattle.mob_typed.{specs.declared.typed.Agg.{Agg}, specs.Trees.{TypedTree, typed, none, more}, specs.Selects.{Output, TypedSelectParts}}
use Rattle.mob_value.{specs.declared.value.Value.{Value}, specs.declared.store.Store.{Store}}
use Rattle.mob_literal.specs.Fields.{field_text}
use Rattle.mob_meaning.{specs.Evaluation.{PlacedFormula}, specs.Scene.{Scene, scene}}
use Rattle.mob_groups.specs.Groups.{groups_by}
use Rattle.mob_tagg.specs.Rows.{IsItem, IsRowFault, IsTuple, earlier}
use Rattle.mob_typing.proofs.WalkedSelects.{zip_on}
use Rattle.mob_arrange.specs.Keyed.{Keyed}
use Rattle.mob_tail.specs.GroupedAnswers.{AnswerColumn, IsAddingTo, IsArgumentOf, IsArgumentOn, IsColumnValue, IsGroupRow, IsGroupedFault, columns_from, columns_of, answer_key, keys_from, answer_item}
use Rattle.mob_tail.specs.Groups.{column_on, first_value, group_fields, groups_on, is_bare_column, same_group, same_texts}
use Rattle.mob_laws.{specs.IndexScripts.{unplaced, unplaced_aggregate, unplaced_key, unplaced_output, unplaced_select}, proofs.Unplaced.{evaluated_bare, picked_same}}
use Rattle.mob_meaning.specs.declared.terms.Terms.{Terms}
use Rattle.mob_slice.specs.declared.mode.Mode.{Mode}

-- ---- lists, one by one

pub zip_mapped : {A B C : Type 0} (R : A → C → Type 0) (Q : B → C → Type 0) (f : A → B) → ((x : A) (y : C) → R x y → Q (f x) y) → (xs : List A) (ys : List C) → AllZip R xs ys → AllZip Q (map f xs) ys
zip_mapped R Q f each [] [] h = h
zip_mapped R Q f each [] (y ∷ ys) h = h
zip_mapped R Q f each (x ∷ xs) [] h = h
zip_mapped R Q f each (x ∷ xs) (y ∷ ys) h = (each x y h.0, zip_mapped R Q f each xs ys h.1)

-- ---- no fault of adding

module _ {T I J V F : Type 0} (E : T → I → Result V F → Type 0) (A : I → List V → V → Option F → Type 0) (K : T → J → Result V F → Type 0) (B : J → List V → V → Option F → Type 0) (f : I → J)
    (evaluated : (t : T) (i : I) (v : V) → E t i (Ok v) → K t (f i) (Ok v)) (added : (i : I) (vs : List V) (v : V) → A i vs v None → B (f i) vs v None) where
  item_bare : (group : List T) (t : T) (i : I) → IsItem E A group t i None → IsItem K B group t (f i) None
  item_bare group t i h = (
    h.0,
    evaluated t i h.0 h.1,
    (h.2.0, zip_on (λ u v. E u i (Ok v)) (λ u v. K u (f i) (Ok v)) (λ u v. evaluated u i v) group h.2.0 h.2.1, added i h.2.0 h.0 h.2.2),
  )

  items_bare : (group : List T) (t : T) (items : List I) → IsTuple E A group t items None → IsTuple K B group t (map f items) None
  items_bare group t [] h = h
  items_bare group t (i ∷ items) (inl h) = let none = h.2 in absurd cc
  items_bare group t (i ∷ items) (inr h) = inr (item_bare group t i h.0, items_bare group t items h.1)

  rows_bare : (same : T → T → Bool) (items : List I) (before ts : List T) → IsRowFault E A same items before ts None → IsRowFault K B same (map f items) before ts None
  rows_bare same items before [] h = h
  rows_bare same items before (t ∷ ts) (inl h) = let none = h.2 in absurd cc
  rows_bare same items before (t ∷ ts) (inr h) = inr (items_bare (earlier same before t) t items h.0, rows_bare same items (before ++ t ∷ []) ts h.1)

-- ---- columns

abbrev unplaced_column : AnswerColumn → AnswerColumn
unplaced_column c = (unplaced c.0, option_map unplaced_aggregate c.1)

columns_same : (aggs : List (Option Agg)) (n : ℕ) (outputs : List Output) → map unplaced_column (columns_from aggs n outputs) ≡ columns_from (map (option_map unplaced_aggregate) aggs) n (map unplaced_output outputs)
columns_same aggs n [] = refl
columns_same aggs n (o ∷ os) = λ i. (unplaced o.0, picked_same unplaced_aggregate aggs n i) ∷ columns_same aggs (n + 1) os i

column_same : (s : Scene) (e : TypedTree) → column_on s e ≡ column_on s (unplaced e)
column_same s (typed o ty place none) = refl
column_same s (typed o ty place (more e es)) = refl

argument_kind : (kind : AggKind) (s : Scene) (e : TypedTree) (v : Value) → IsArgumentOf kind s e (Ok v) → IsArgumentOf kind s (unplaced e) (Ok v)
argument_kind CountAll s e v h = h
argument_kind _ s e v h = evaluated_bare s e v h

abbrev at_place : ℕ → Formula → PlacedFormula
at_place place formula = (place, formula)

-- adding without a fault has none at another place
no_fault : (place : ℕ) (g : Option Formula) → None ≡ option_map (at_place place) g → None ≡ option_map (at_place 0) g
no_fault place None h = refl
no_fault place (Some x) h = absurd cc

added_bare : (mode : Mode) (c : AnswerColumn) (vs : List Value) (v : Value) → IsAddingTo mode c vs v None → IsAddingTo mode (unplaced_column c) vs v None
added_bare mode (e, None) vs v h = h
added_bare mode (e, Some agg) vs v h = (h.0, h.1, no_fault agg.place h.0 h.2)

module _ (q : TypedSelectParts) (store : Store) (terms : Terms) where
  abbrev bare : TypedSelectParts
  bare = unplaced_select q

  argument_bare : (t : List ℕ) (c : AnswerColumn) (v : Value) → IsArgumentOn q store terms t c (Ok v) → IsArgumentOn bare store terms t (unplaced_column c) (Ok v)
  argument_bare t (e, None) v h = h
  argument_bare t (e, Some agg) v h = argument_kind agg.kind (scene store q.from t terms) e v h

  -- ---- groups

  texts_same : (s : Scene) (gs : List TypedTree) → map (λ g. field_text terms.epoch (column_on s g)) gs ≡ map (λ g. field_text terms.epoch (column_on s g)) (map unplaced gs)
  texts_same s [] = refl
  texts_same s (g ∷ gs) = λ i. field_text terms.epoch (column_same s g i) ∷ texts_same s gs i

  fields_same : (t : List ℕ) → group_fields q store terms t ≡ group_fields bare store terms t
  fields_same t = texts_same (scene store q.from t terms) q.groups

  empty_same : (gs : List TypedTree) → is_bare_column gs ≡ is_bare_column (map unplaced gs)
  empty_same [] = refl
  empty_same (g ∷ gs) = refl

  pub groups_same : (kept : List (List ℕ)) → groups_on q store terms kept ≡ groups_on bare store terms kept
  groups_same kept = λ i. groups_by (not (empty_same q.groups i)) same_texts (map (λ (t : List ℕ). (fields_same t i, t)) kept)

  pub fault_bare : (kept : List (List ℕ)) → IsGroupedFault q store terms kept None → IsGroupedFault bare store terms kept None
  fault_bare kept h =
      let rows : IsRowFault (IsArgumentOn bare store terms) (IsAddingTo terms.mode) (same_group q store terms) (map unplaced_column (columns_of q)) [] kept None =
      rows_bare (IsArgumentOn q store terms) (IsAddingTo terms.mode) (IsArgumentOn bare store terms) (IsAddingTo terms.mode) unplaced_column argument_bare (added_bare terms.mode) (same_group q store terms) (columns_of q) [] kept h in
      let columns : IsRowFault (IsArgumentOn bare store terms) (IsAddingTo terms.mode) (same_group q store terms) (columns_of bare) [] kept None =
      subst (λ (cs : List AnswerColumn). IsRowFault (IsArgumentOn bare store terms) (IsAddingTo terms.mode) (same_group q store terms) cs [] kept None) (columns_same q.aggs 0 q.items) rows in
      let groups : same_group q store terms ≡ same_group bare store terms = λ i t u. same_texts (fields_same t i) (fields_same u i) in
      subst (λ (same : List ℕ → List ℕ → Bool). IsRowFault (IsArgumentOn bare store terms) (IsAddingTo terms.mode) same (columns_of bare) [] kept None) groups columns

  -- ---- rows of groups

  first_same : (group : List (List ℕ)) (e : TypedTree) → first_value q store terms group e ≡ first_value bare store terms group (unplaced e)
  first_same [] e = refl
  first_same (t ∷ group) e = column_same (scene store q.from t terms) e

  column_bare : (group : List (List ℕ)) (c : AnswerColumn) (v : Value) → IsColumnValue q store terms group c v → IsColumnValue bare store terms group (unplaced_column c) v
  column_bare group (e, None) v h = h ∙ first_same group e
  column_bare group (e, Some agg) v h = (
    h.0,
    zip_on (λ t w. IsArgumentOn q store terms t (e, Some agg) (Ok w)) (λ t w. IsArgumentOn bare store terms t (unplaced_column (e, Some agg)) (Ok w)) (λ t w. argument_bare t (e, Some agg) w) group h.0 h.1,
    h.2,
  )

  key_same : (group : List (List ℕ)) (values : List Value) (e : TypedTree) (o : Option ℕ) → answer_key q store terms group values e o ≡ answer_key bare store terms group values (unplaced e) o
  key_same group values e None = first_same group e
  key_same group values e (Some n) = refl

  keys_same : (group : List (List ℕ)) (values : List Value) (n : ℕ) (keys : List (TypedTree × Bool)) → keys_from q store terms group values n keys ≡ keys_from bare store terms group values n (map unplaced_key keys)
  keys_same group values n [] = refl
  keys_same group values n (k ∷ keys) = λ i. key_same group values k.0 (answer_item q.key_items n) i ∷ keys_same group values (n + 1) keys i

  pub row_bare : (group : List (List ℕ)) (row : Keyed) → IsGroupRow q store terms group row → IsGroupRow bare store terms group row
  row_bare group row h = record {
    values = h.values;
    made = subst (λ (cs : List AnswerColumn). AllZip (IsColumnValue bare store terms group) cs h.values) (columns_same q.aggs 0 q.items)
        (zip_mapped (IsColumnValue q store terms group) (IsColumnValue bare store terms group) unplaced_column (column_bare group) (columns_of q) h.values h.made);
    fields = h.fields;
    keys = h.keys ∙ keys_same group h.values 0 q.keys;
  }
