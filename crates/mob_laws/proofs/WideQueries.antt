-- The wide mode changes no answer of a query that has one in the narrow mode.
use Rattle.std.{specs.Prelude.{Result, get_or}, specs.List.{AllZip}}
use Rattle.std.proofs.Common.{◌≡◌, ◌∙◌, inl, inr, refl, subst, ℕ, ℤ, ◌+◌, Bool, true, false, List, [], ◌∷◌, ◌++◌, map, Option, Some, None, Ok}
use mathlib.Core.Path.{transport}
use Rattle.mob_operators.{specs.declared.aggregate.AggKind.{AggKind}, specs.declared.aggregate.AggKind.TheVariants.{CountAll}}
use Rattle.mob_slice.specs.declared.mode.Mode.TheVariants.{Narrow, Wide}
use Rattle.mob_typed.{specs.Trees.{TypedTree, typed, none, more}, specs.Selects.{Output, TypedSelectParts}}
use Rattle.mob_value.{specs.declared.value.Value.{Value}, specs.declared.value.Value.TheVariants.{Bool as Truth}, specs.declared.store.Store.{Store}}
use Rattle.mob_literal.specs.Fields.{field_text}
use Rattle.mob_catalog.specs.Catalogue.{Catalogue, live_rows}
use Rattle.mob_meaning.{specs.Scene.{Scene, scene}, proofs.AnyMode.{leaf_same, value_same}, proofs.Widening.{kept_value, fault_there}}
use Rattle.mob_meaning.specs.declared.terms.Terms.{Terms}
use Rattle.mob_plan.specs.Plans.{PlanStep, scan, probe, planned}
use Rattle.mob_groups.specs.Groups.{groups_by}
use Rattle.mob_tagg.specs.Rows.{IsItem, IsRowFault, IsTuple, earlier}
use Rattle.mob_tuples.{specs.Kept.{AreClean, AreKeptOfAny, IsClean}, specs.Ranges.{AreAllVisits}, specs.Tuples.{AreTuples}, specs.Visits.{Joins, Keeps, Visit}}
use Rattle.mob_probes.specs.Rows.{StepGives, TableGives}
use Rattle.mob_join.{specs.KeptTuples.{AreThoseThatMeet}, specs.Query.{FailsBy, FailsOn, IsKept, IsMet, IsMetAt, condition_at, conditions}}
use Rattle.mob_arrange.specs.Keyed.{Keyed}
use Rattle.mob_tail.{specs.Answers.{IsAnswerBy, IsAnswerOnKept, IsField, IsKey, IsTupleRow}, specs.GroupedAnswers.{AnswerColumn, IsAddingTo, IsArgumentOf, IsArgumentOn, IsColumnValue, IsGroupRow, IsGroupedFault, columns_of, answer_key, keys_from, answer_item}}
use Rattle.mob_tail.specs.Groups.{column_on, first_value, group_fields, groups_on, has_groups, same_group, same_texts}
use Rattle.mob_typing.proofs.WalkedSelects.{zip_on}
use Rattle.mob_laws.proofs.UnplacedAnswers.{made_carried}

-- the terms of a run in the two modes
abbrev pub narrow_terms : ℤ → Terms
narrow_terms epoch = record { epoch = epoch; mode = Narrow }

abbrev pub wide_terms : ℤ → Terms
wide_terms epoch = record { epoch = epoch; mode = Wide }

-- ---- the kept tuples

module _ (q : TypedSelectParts) (c : Catalogue) (epoch : ℤ) where
  abbrev Narrowly : List ℕ → Scene
  Narrowly tuple = scene c.store q.from tuple (narrow_terms epoch)

  abbrev Widely : List ℕ → Scene
  Widely tuple = scene c.store q.from tuple (wide_terms epoch)

  met_same : (o : Option TypedTree) (tuple : List ℕ) → IsMet o (Narrowly tuple) ≡ IsMet o (Widely tuple)
  met_same None tuple = refl
  met_same (Some e) tuple = value_same c.store q.from tuple epoch Narrow Wide e (Truth true)

  meets_same : (visit : Visit) → IsMetAt q c (narrow_terms epoch) visit ≡ IsMetAt q c (wide_terms epoch) visit
  meets_same visit = met_same (condition_at q visit.on) visit.tuple

  -- what a key asks for is decided in the narrow mode
  gives_same : (step : PlanStep) (begin rows : List ℕ) → StepGives c q.from (narrow_terms epoch) step begin rows ≡ StepGives c q.from (wide_terms epoch) step begin rows
  gives_same scan begin rows = refl
  gives_same (probe index key) begin rows = refl

  clean_by : (o : Option TypedTree) (tuple : List ℕ) → IsClean (λ (t : List ℕ). FailsBy o (Narrowly t)) tuple → IsClean (λ (t : List ℕ). FailsBy o (Widely t)) tuple
  clean_by None tuple h f fails = fails
  clean_by (Some e) tuple h f fails = let fault = fault_there c.store q.from tuple epoch e f fails in h fault.0 fault.1

  clean_wide : (visit : Visit) → IsClean (FailsOn q c (narrow_terms epoch)) visit → IsClean (FailsOn q c (wide_terms epoch)) visit
  clean_wide visit h = clean_by (condition_at q visit.on) visit.tuple h

  pub kept_wide : (kept : List (List ℕ)) → IsKept q c (narrow_terms epoch) (Ok kept) → IsKept q c (wide_terms epoch) (Ok kept)
  kept_wide kept h = (
    (
      transport (λ i. AreKeptOfAny (Keeps (λ visit. meets_same visit i)) (AreTuples (Joins (conditions q) (λ visit. meets_same visit i) (TableGives c)) q.from []) kept) h.0.0,
      transport (λ i. AreClean (FailsOn q c (wide_terms epoch)) (AreAllVisits (conditions q) (λ visit. meets_same visit i) (λ step begin rows. gives_same step begin rows i) (planned q c.indexed)))
          (h.0.1.0, h.0.1.1, λ k d lt. clean_wide (get_or h.0.1.0 k d) (h.0.1.2 k d lt)),
    ),
    transport (λ i. AreThoseThatMeet (conditions q) (λ visit. meets_same visit i) (live_rows c) q.from kept) h.1,
  )

-- ---- no fault of adding

module _ {T I V F : Type 0} (E : T → I → Result V F → Type 0) (A : I → List V → V → Option F → Type 0) (K : T → I → Result V F → Type 0) (B : I → List V → V → Option F → Type 0)
    (evaluated : (t : T) (i : I) (v : V) → E t i (Ok v) → K t i (Ok v)) (added : (i : I) (vs : List V) (v : V) → A i vs v None → B i vs v None) where
  item_wide : (group : List T) (t : T) (i : I) → IsItem E A group t i None → IsItem K B group t i None
  item_wide group t i h = (h.0, evaluated t i h.0 h.1, (h.2.0, zip_on (λ u v. E u i (Ok v)) (λ u v. K u i (Ok v)) (λ u v. evaluated u i v) group h.2.0 h.2.1, added i h.2.0 h.0 h.2.2))

  items_wide : (group : List T) (t : T) (items : List I) → IsTuple E A group t items None → IsTuple K B group t items None
  items_wide group t [] h = h
  items_wide group t (i ∷ items) (inl h) = let none = h.2 in absurd cc
  items_wide group t (i ∷ items) (inr h) = inr (item_wide group t i h.0, items_wide group t items h.1)

  rows_wide : (same : T → T → Bool) (items : List I) (before ts : List T) → IsRowFault E A same items before ts None → IsRowFault K B same items before ts None
  rows_wide same items before [] h = h
  rows_wide same items before (t ∷ ts) (inl h) = let none = h.2 in absurd cc
  rows_wide same items before (t ∷ ts) (inr h) = inr (items_wide (earlier same before t) t items h.0, rows_wide same items (before ++ t ∷ []) ts h.1)

-- aggregates are decided as in the narrow mode
added_wide : (c : AnswerColumn) (vs : List Value) (v : Value) → IsAddingTo Narrow c vs v None → IsAddingTo Wide c vs v None
added_wide (e, None) vs v h = h
added_wide (e, Some agg) vs v h = h

-- ---- the answer

module _ (q : TypedSelectParts) (store : Store) (epoch : ℤ) where
  abbrev narrow : Terms
  narrow = narrow_terms epoch

  abbrev wide : Terms
  wide = wide_terms epoch

  abbrev Here : List ℕ → Scene
  Here t = scene store q.from t narrow

  abbrev There : List ℕ → Scene
  There t = scene store q.from t wide

  field_wide : (t : List ℕ) (item : Output) (field : List ℕ) → IsField (Here t) item (Ok field) → IsField (There t) item (Ok field)
  field_wide t item field h = (h.0, kept_value store q.from t epoch item.0 h.0 h.1, h.2)

  key_wide : (t : List ℕ) (key : TypedTree × Bool) (v : Value) → IsKey (Here t) key (Ok v) → IsKey (There t) key (Ok v)
  key_wide t key v h = kept_value store q.from t epoch key.0 v h

  tuple_wide : (t : List ℕ) (row : Keyed) → IsTupleRow q store narrow t (Ok row) → IsTupleRow q store wide t (Ok row)
  tuple_wide t row h =
      (made_carried (IsField (Here t)) (IsField (There t)) (field_wide t) q.items row.fields h.0, made_carried (IsKey (Here t)) (IsKey (There t)) (key_wide t) q.keys row.keys h.1)

  argument_kind : (kind : AggKind) (t : List ℕ) (e : TypedTree) (v : Value) → IsArgumentOf kind (Here t) e (Ok v) → IsArgumentOf kind (There t) e (Ok v)
  argument_kind CountAll t e v h = h
  argument_kind _ t e v h = kept_value store q.from t epoch e v h

  argument_wide : (t : List ℕ) (c : AnswerColumn) (v : Value) → IsArgumentOn q store narrow t c (Ok v) → IsArgumentOn q store wide t c (Ok v)
  argument_wide t (e, None) v h = h
  argument_wide t (e, Some agg) v h = argument_kind agg.kind t e v h

  -- the value of a column is the same
  column_same : (t : List ℕ) (e : TypedTree) → column_on (Here t) e ≡ column_on (There t) e
  column_same t (typed o ty place none) = leaf_same store q.from t epoch Narrow Wide o ty
  column_same t (typed o ty place (more e es)) = refl

  texts_same : (t : List ℕ) (gs : List TypedTree) → map (λ g. field_text epoch (column_on (Here t) g)) gs ≡ map (λ g. field_text epoch (column_on (There t) g)) gs
  texts_same t [] = refl
  texts_same t (g ∷ gs) = λ i. field_text epoch (column_same t g i) ∷ texts_same t gs i

  fields_same : (t : List ℕ) → group_fields q store narrow t ≡ group_fields q store wide t
  fields_same t = texts_same t q.groups

  groups_same : (kept : List (List ℕ)) → groups_on q store narrow kept ≡ groups_on q store wide kept
  groups_same kept = λ i. groups_by (has_groups q) same_texts (map (λ (t : List ℕ). (fields_same t i, t)) kept)

  fault_wide : (kept : List (List ℕ)) → IsGroupedFault q store narrow kept None → IsGroupedFault q store wide kept None
  fault_wide kept h =
      let rows : IsRowFault (IsArgumentOn q store wide) (IsAddingTo Wide) (same_group q store narrow) (columns_of q) [] kept None =
      rows_wide (IsArgumentOn q store narrow) (IsAddingTo Narrow) (IsArgumentOn q store wide) (IsAddingTo Wide) argument_wide added_wide (same_group q store narrow) (columns_of q) [] kept h in
      let groups : same_group q store narrow ≡ same_group q store wide = λ i t u. same_texts (fields_same t i) (fields_same u i) in
      subst (λ (same : List ℕ → List ℕ → Bool). IsRowFault (IsArgumentOn q store wide) (IsAddingTo Wide) same (columns_of q) [] kept None) groups rows

  first_same : (group : List (List ℕ)) (e : TypedTree) → first_value q store narrow group e ≡ first_value q store wide group e
  first_same [] e = refl
  first_same (t ∷ group) e = column_same t e

  column_wide : (group : List (List ℕ)) (c : AnswerColumn) (v : Value) → IsColumnValue q store narrow group c v → IsColumnValue q store wide group c v
  column_wide group (e, None) v h = h ∙ first_same group e
  column_wide group (e, Some agg) v h = (
    h.0,
    zip_on (λ t w. IsArgumentOn q store narrow t (e, Some agg) (Ok w)) (λ t w. IsArgumentOn q store wide t (e, Some agg) (Ok w)) (λ t w. argument_wide t (e, Some agg) w) group h.0 h.1,
    h.2,
  )

  key_same : (group : List (List ℕ)) (values : List Value) (e : TypedTree) (o : Option ℕ) → answer_key q store narrow group values e o ≡ answer_key q store wide group values e o
  key_same group values e None = first_same group e
  key_same group values e (Some n) = refl

  keys_same : (group : List (List ℕ)) (values : List Value) (n : ℕ) (keys : List (TypedTree × Bool)) → keys_from q store narrow group values n keys ≡ keys_from q store wide group values n keys
  keys_same group values n [] = refl
  keys_same group values n (k ∷ keys) = λ i. key_same group values k.0 (answer_item q.key_items n) i ∷ keys_same group values (n + 1) keys i

  row_wide : (group : List (List ℕ)) (row : Keyed) → IsGroupRow q store narrow group row → IsGroupRow q store wide group row
  row_wide group row h = record {
    values = h.values;
    made = zip_on (IsColumnValue q store narrow group) (IsColumnValue q store wide group) (column_wide group) (columns_of q) h.values h.made;
    fields = h.fields;
    keys = h.keys ∙ keys_same group h.values 0 q.keys;
  }

  answer_by : (grouped : Bool) (kept : List (List ℕ)) (answer : List (List (List ℕ))) → IsAnswerBy grouped q store narrow kept (Ok answer) → IsAnswerBy grouped q store wide kept (Ok answer)
  answer_by false kept answer h = (h.0, made_carried (IsTupleRow q store narrow) (IsTupleRow q store wide) tuple_wide kept h.0 h.1, h.2)
  answer_by true kept answer h = (
    fault_wide kept h.0,
    (
      h.1.0,
      subst (λ (groups : List (List (List ℕ))). AllZip (IsGroupRow q store wide) groups h.1.0) (groups_same kept)
          (zip_on (IsGroupRow q store narrow) (IsGroupRow q store wide) row_wide (groups_on q store narrow kept) h.1.0 h.1.1),
      h.1.2,
    ),
  )

  pub answer_wide : (kept : List (List ℕ)) (answer : List (List (List ℕ))) → IsAnswerOnKept q store narrow kept (Ok answer) → IsAnswerOnKept q store wide kept (Ok answer)
  answer_wide kept answer h = answer_by q.grouped kept answer h
