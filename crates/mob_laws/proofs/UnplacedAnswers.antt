-- Places change no answer of a query.
use Rattle.std.{specs.Prelude.{Result}, specs.List.{AllZip}, proofs.Common.{◌≡◌, refl, sym, ap, subst, ℕ, Bool, true, false, List, [], ◌∷◌, map, Ok}}
use Rattle.mob_typed.{specs.Trees.{TypedTree}, specs.Selects.{Output, TypedSelectParts}}
use Rattle.mob_value.{specs.declared.value.Value.{Value}, specs.declared.store.Store.{Store}}
use Rattle.mob_meaning.specs.Scene.{Scene, scene}
use Rattle.mob_catalog.specs.Catalogue.{Catalogue}
use Rattle.mob_arrange.{specs.Keyed.{Keyed}, specs.Rows.{AreArranged}}
use Rattle.mob_tail.{specs.Answers.{IsAnswerBy, IsAnswerOnKept, IsField, IsKey, IsTupleRow}, specs.GroupedAnswers.{IsGroupRow}, specs.Groups.{groups_on}, specs.IsMadeOfEach.{IsMadeOfEach}}
use Rattle.mob_tail.specs.Outcomes.{HasOneQueryAnswer}
use Rattle.mob_shell.{specs.Answers.{QueryAnswers}, specs.SameAnswers.{DifferInIndexes}}
use Rattle.mob_laws.{specs.IndexScripts.{unplaced_key, unplaced_output, unplaced_select}, proofs.Unplaced.{evaluated_bare, kept_alike}}
use Rattle.mob_typing.proofs.WalkedSelects.{zip_on}
use Rattle.mob_laws.proofs.UnplacedGroups.{fault_bare, groups_same, row_bare}
use Rattle.mob_meaning.specs.declared.terms.Terms.{Terms}

made_mapped : {X Z Y F : Type 0} (R : X → Result Y F → Type 0) (Q : Z → Result Y F → Type 0) (f : X → Z) → ((x : X) (y : Y) → R x (Ok y) → Q (f x) (Ok y)) → (xs : List X) (ys : List Y) → IsMadeOfEach R xs (Ok ys) → IsMadeOfEach Q (map f xs) (Ok ys)
made_mapped R Q f each [] ys h = h
made_mapped R Q f each (x ∷ xs) ys h = (h.0, each x h.0 h.1, (h.2.0, h.2.1, made_mapped R Q f each xs h.2.0 h.2.2))

pub made_carried : {X Y F : Type 0} (R Q : X → Result Y F → Type 0) → ((x : X) (y : Y) → R x (Ok y) → Q x (Ok y)) → (xs : List X) (ys : List Y) → IsMadeOfEach R xs (Ok ys) → IsMadeOfEach Q xs (Ok ys)
made_carried R Q each [] ys h = h
made_carried R Q each (x ∷ xs) ys h = (h.0, each x h.0 h.1, (h.2.0, h.2.1, made_carried R Q each xs h.2.0 h.2.2))

falls_same : (keys : List (TypedTree × Bool)) → map (λ key. key.1) keys ≡ map (λ key. key.1) (map unplaced_key keys)
falls_same [] = refl
falls_same (k ∷ keys) = ap (λ (bs : List Bool). k.1 ∷ bs) (falls_same keys)

pub names_same : (items : List Output) → map (λ item. item.1) items ≡ map (λ item. item.1) (map unplaced_output items)
names_same [] = refl
names_same (o ∷ items) = ap (λ (ns : List (List ℕ)). o.1 ∷ ns) (names_same items)

module _ (q : TypedSelectParts) (store : Store) (terms : Terms) where
  abbrev bare : TypedSelectParts
  bare = unplaced_select q

  field_bare : (s : Scene) (item : Output) (field : List ℕ) → IsField s item (Ok field) → IsField s (unplaced_output item) (Ok field)
  field_bare s item field h = (h.0, evaluated_bare s item.0 h.0 h.1, h.2)

  key_bare : (s : Scene) (key : TypedTree × Bool) (v : Value) → IsKey s key (Ok v) → IsKey s (unplaced_key key) (Ok v)
  key_bare s key v h = evaluated_bare s key.0 v h

  tuple_bare : (t : List ℕ) (row : Keyed) → IsTupleRow q store terms t (Ok row) → IsTupleRow bare store terms t (Ok row)
  tuple_bare t row h =
      let s : Scene = scene store q.from t terms in
      (made_mapped (IsField s) (IsField s) unplaced_output (field_bare s) q.items row.fields h.0, made_mapped (IsKey s) (IsKey s) unplaced_key (key_bare s) q.keys row.keys h.1)

  arranged_bare : (rows : List Keyed) (answer : List (List (List ℕ))) → AreArranged (map (λ key. key.1) q.keys) q.distinct q.limit rows answer → AreArranged (map (λ key. key.1) bare.keys) q.distinct q.limit rows answer
  arranged_bare rows answer h = subst (λ (falls : List Bool). AreArranged falls q.distinct q.limit rows answer) (falls_same q.keys) h

  answer_by : (grouped : Bool) (kept : List (List ℕ)) (answer : List (List (List ℕ))) → IsAnswerBy grouped q store terms kept (Ok answer) → IsAnswerBy grouped bare store terms kept (Ok answer)
  answer_by false kept answer h = (h.0, made_carried (IsTupleRow q store terms) (IsTupleRow bare store terms) tuple_bare kept h.0 h.1, arranged_bare h.0 answer h.2)
  answer_by true kept answer h = (
    fault_bare q store terms kept h.0,
    (
      h.1.0,
      subst (λ (groups : List (List (List ℕ))). AllZip (IsGroupRow bare store terms) groups h.1.0) (groups_same q store terms kept)
          (zip_on (IsGroupRow q store terms) (IsGroupRow bare store terms) (row_bare q store terms) (groups_on q store terms kept) h.1.0 h.1.1),
      arranged_bare h.1.0 answer h.1.2,
    ),
  )

  answer_bare : (kept : List (List ℕ)) (answer : List (List (List ℕ))) → IsAnswerOnKept q store terms kept (Ok answer) → IsAnswerOnKept bare store terms kept (Ok answer)
  answer_bare kept answer h = answer_by q.grouped kept answer h

-- queries that differ in places, over catalogues that differ in indexes, have the same answer if
-- both have one
pub answers_alike : HasOneQueryAnswer → (terms : Terms) (p q : TypedSelectParts) (c d : Catalogue) (rows others : List (List (List ℕ))) → unplaced_select p ≡ unplaced_select q → DifferInIndexes c d → QueryAnswers p c terms (Ok rows) → QueryAnswers q d terms (Ok others) → rows ≡ others
answers_alike one terms p q c d rows others same differ h k =
    let kept : h.0 ≡ k.0 = kept_alike terms p q c d h.0 k.0 same differ h.1 k.1 in
    let here : IsAnswerOnKept (unplaced_select p) c.store terms h.0 (Ok rows) = answer_bare p c.store terms h.0 rows h.2 in
    let there : IsAnswerOnKept (unplaced_select q) d.store terms k.0 (Ok others) = answer_bare q d.store terms k.0 others k.2 in
    let placed : IsAnswerOnKept (unplaced_select p) d.store terms k.0 (Ok others) = subst (λ (r : TypedSelectParts). IsAnswerOnKept r d.store terms k.0 (Ok others)) (sym same) there in
    let stored : IsAnswerOnKept (unplaced_select p) c.store terms k.0 (Ok others) = subst (λ (store : Store). IsAnswerOnKept (unplaced_select p) store terms k.0 (Ok others)) (sym differ.store) placed in
    let back : IsAnswerOnKept (unplaced_select p) c.store terms h.0 (Ok others) = subst (λ (ks : List (List ℕ)). IsAnswerOnKept (unplaced_select p) c.store terms ks (Ok others)) (sym kept) stored in
    let e = one (unplaced_select p) c.store terms h.0 (Ok rows) (Ok others) here back in
    cc e
