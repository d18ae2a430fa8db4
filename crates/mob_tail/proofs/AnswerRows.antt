-- Rows as values, and as printed.
use Rattle.std.{specs.List.{AllZip}, proofs.Common.{◌≡◌, ℕ, ℤ, ◌+◌, Bool, List, [], ◌∷◌, ◌++◌, Ok, Err, inl, inr, length, map, take, drop, refl, sym, ap, subst, ◌∙◌, arith}}
use Rattle.std.proofs.Math.Seq.{take-append_seam, drop-append_seam}
use Rattle.mob_typed.{specs.Trees.{TypedTree}, specs.Selects.{Output, TypedSelectParts}}
use Rattle.mob_value.{specs.declared.value.Value.{Value}, specs.declared.store.Store.{Store}}
use Rattle.mob_literal.specs.Fields.{field_text}
use Rattle.mob_meaning.{specs.Scene.{Scene}, specs.Evaluation.{PlacedFormula, TreeEvaluatesTo}}
use Rattle.mob_tail.{specs.IsMadeOfEach.{IsMadeOfEach}, specs.Answers.{IsField, IsKey, IsRowOf}, specs.Evaluated.{AreEvaluated}, specs.Recalling.{item_trees, order_trees}}
use Rattle.mob_tail.{specs.GroupedAnswers.{columns_of, keys_from, IsColumnValue, IsGroupRow}, specs.AnswerRows.{falls_of, answer_row, IsGroupRowOf}, proofs.GroupLoop.{row_made}}
use Rattle.mob_tail.proofs.Making.{made_length}
use Rattle.mob_meaning.specs.declared.terms.Terms.{Terms}

count_map : {X Y : Type 0} (f : X → Y) (xs : List X) → length (map f xs) ≡ length xs
count_map f [] = refl
count_map f (x ∷ xs) = let e = count_map f xs in omega (arith, e)

-- the keys come first, as many as there are
pub row_is : (select : TypedSelectParts) (day : ℤ) (keys fields : List Value) → length keys ≡ length select.keys → answer_row select day (keys ++ fields) ≡ record { fields = map (field_text day) fields; keys = keys }
row_is select day keys fields e =
    let count : length (falls_of select) ≡ length keys = count_map (λ (key : TypedTree × Bool). key.1) select.keys ∙ sym e in
    let front : take (length (falls_of select)) (keys ++ fields) ≡ keys = rw count (take-append_seam keys fields) in
    let back : drop (length (falls_of select)) (keys ++ fields) ≡ fields = rw count (drop-append_seam keys fields) in
    λ i. record { fields = map (field_text day) (back i); keys = front i }

-- the row of a tuple
row_evaluated : (select : TypedSelectParts) (s : Scene) (keys fields row : List Value) → IsMadeOfEach (IsField s) select.items (Ok (map (field_text s.terms.epoch) fields)) → IsMadeOfEach (IsKey s) select.keys (Ok keys) → row ≡ keys ++ fields → IsRowOf select s (Ok (answer_row select s.terms.epoch row))
row_evaluated select s keys fields row made kept e =
    let is : answer_row select s.terms.epoch row ≡ record { fields = map (field_text s.terms.epoch) fields; keys = keys } = ap (answer_row select s.terms.epoch) e ∙ row_is select s.terms.epoch keys fields (made_length (IsKey s) select.keys keys kept) in
    subst (λ r. IsRowOf select s (Ok r)) (sym is) (made, kept)

-- what the expressions of the select list and of the keys give, as fields and as keys
module _ (s : Scene) where
  fields_made : (items : List Output) (values : List Value) → IsMadeOfEach (TreeEvaluatesTo s) (map (λ (item : Output). item.0) items) (Ok values) → IsMadeOfEach (IsField s) items (Ok (map (field_text s.terms.epoch) values))
  fields_made [] values h = ap (map (field_text s.terms.epoch)) h
  fields_made (x ∷ xs) values h = (field_text s.terms.epoch h.0, (h.0, h.1, refl), (map (field_text s.terms.epoch) h.2.0, ap (map (field_text s.terms.epoch)) h.2.1, fields_made xs h.2.0 h.2.2))

  fields_fail : (items : List Output) (f : PlacedFormula) → IsMadeOfEach (TreeEvaluatesTo s) (map (λ (item : Output). item.0) items) (Err f) → IsMadeOfEach (IsField s) items (Err f)
  fields_fail [] f h = h
  fields_fail (x ∷ xs) f (inl h) = inl h
  fields_fail (x ∷ xs) f (inr h) = inr (field_text s.terms.epoch h.0, (h.0, h.1, refl), fields_fail xs f h.2)

  keys_made : (keys : List (TypedTree × Bool)) (values : List Value) → IsMadeOfEach (TreeEvaluatesTo s) (map (λ (key : TypedTree × Bool). key.0) keys) (Ok values) → IsMadeOfEach (IsKey s) keys (Ok values)
  keys_made [] values h = h
  keys_made (x ∷ xs) values h = (h.0, h.1, (h.2.0, h.2.1, keys_made xs h.2.0 h.2.2))

  keys_fail : (keys : List (TypedTree × Bool)) (f : PlacedFormula) → IsMadeOfEach (TreeEvaluatesTo s) (map (λ (key : TypedTree × Bool). key.0) keys) (Err f) → IsMadeOfEach (IsKey s) keys (Err f)
  keys_fail [] f h = h
  keys_fail (x ∷ xs) f (inl h) = inl h
  keys_fail (x ∷ xs) f (inr h) = inr (h.0, h.1, keys_fail xs f h.2)

  evaluated_fault : (select : TypedSelectParts) (f : PlacedFormula) → AreEvaluated s (item_trees select) (order_trees select) (Err f) → IsRowOf select s (Err f)
  evaluated_fault select f (inl h) = inl (fields_fail select.items f h)
  evaluated_fault select f (inr h) = inr (map (field_text s.terms.epoch) h.0, fields_made select.items h.0 h.1, keys_fail select.keys f h.2)

  module _ (select : TypedSelectParts) (items keys : List TypedTree) (these : items ≡ item_trees select) (those : keys ≡ order_trees select) where
    pub row_seen : (row : List Value) → AreEvaluated s items keys (Ok row) → IsRowOf select s (Ok (answer_row select s.terms.epoch row))
    row_seen row (fields, front, made, kept, is) =
        row_evaluated select s front fields row (fields_made select.items fields (subst (λ es. IsMadeOfEach (TreeEvaluatesTo s) es (Ok fields)) these made))
        (keys_made select.keys front (subst (λ es. IsMadeOfEach (TreeEvaluatesTo s) es (Ok front)) those kept)) is

    pub row_fails : (f : PlacedFormula) → AreEvaluated s items keys (Err f) → IsRowOf select s (Err f)
    row_fails f h = evaluated_fault select f (subst (λ es. AreEvaluated s es (order_trees select) (Err f)) these (subst (λ es. AreEvaluated s items es (Err f)) those h))

keys_counted : (select : TypedSelectParts) (store : Store) (terms : Terms) (group : List (List ℕ)) (values : List Value) (n : ℕ) (keys : List (TypedTree × Bool)) → length (keys_from select store terms group values n keys) ≡ length keys
keys_counted select store terms group values n [] = refl
keys_counted select store terms group values n (k ∷ keys) = let e = keys_counted select store terms group values (n + 1) keys in omega (arith, e)

-- the row of a group
pub group_row : (select : TypedSelectParts) (store : Store) (terms : Terms) (tuples : List (List ℕ)) (columns keys row : List Value) → AllZip (IsColumnValue select store terms tuples) (columns_of select) columns → keys ≡ keys_from select store terms tuples columns 0 select.keys → row ≡ keys ++ columns → IsGroupRowOf select store terms tuples row
group_row select store terms tuples columns keys row made h e =
    let count : length keys ≡ length select.keys = ap length h ∙ keys_counted select store terms tuples columns 0 select.keys in
    let is : answer_row select terms.epoch row ≡ record { fields = map (field_text terms.epoch) columns; keys = keys } = ap (answer_row select terms.epoch) e ∙ row_is select terms.epoch keys columns count in
    subst (IsGroupRow select store terms tuples) (sym is) (row_made select store terms tuples columns (record { fields = map (field_text terms.epoch) columns; keys = keys }) made refl h)

-- what holds of each thing and its entry as seen
pub all_seen : {X Y Z : Type 0} (R : X → Z → Type 0) (see : Y → Z) (xs : List X) (ys : List Y) → AllZip (λ x y. R x (see y)) xs ys → AllZip R xs (map see ys)
all_seen R see [] [] h = h
all_seen R see [] (y ∷ ys) h = h
all_seen R see (x ∷ xs) [] h = h
all_seen R see (x ∷ xs) (y ∷ ys) h = (h.0, all_seen R see xs ys h.1)
