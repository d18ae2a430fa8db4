-- Kept tuples have one answer.
use Rattle.std.{specs.Ordering.{is_lt}, proofs.Common.{◌≡◌, inl, inr, ℕ, Bool, true, false, List, [], ◌∷◌, ◌++◌, Option, Some, None, Result, Ok, Err, sym, ap, ap₂, subst, ◌∙◌, map}}
use Rattle.mob_typed.{specs.Trees.{TypedTree}, specs.Selects.{TypedSelectParts}}
use Rattle.mob_value.specs.declared.store.Store.{Store}
use Rattle.mob_literal.specs.Fields.{field_text}
use Rattle.mob_meaning.{specs.Scene.{Scene, scene}, specs.Outcomes.{HasOneOutcome, IsOne}, specs.Evaluation.{PlacedFormula}}
use Rattle.mob_arrange.{specs.Keyed.{Keyed}, specs.Order.{IsOrderedByKeys, compare_rows}, specs.Rows.{AreFirst, AreDistinct, AreArranged, limited}, proofs.Orders.{rows_ranked}}
use Rattle.mob_arrange.proofs.OneOrder.{one_order}
use Rattle.mob_tail.{specs.IsMadeOfEach.{IsMadeOfEach}, specs.Answers.{IsField, IsKey, IsRowOf, IsTupleRow, IsPlainAnswer, IsAnswerBy, IsAnswerOnKept}, specs.GroupedAnswers.{IsGroupedAnswer}}
use Rattle.mob_tail.{specs.Groups.{groups_on}, proofs.OneGroup.{fault_once, rows_once}}
use Rattle.mob_meaning.specs.declared.terms.Terms.{Terms}

module _ {X Y F : Type 0} (R : X → Result Y F → Type 0) (once : (x : X) → IsOne (R x)) where
  one_value : (x : X) (y z : Y) → R x (Ok y) → R x (Ok z) → y ≡ z
  one_value x y z h k = let e = once x (Ok y) (Ok z) h k in cc e

  told_fault : (x : X) (y : Y) (f : F) → R x (Ok y) → R x (Err f) → ⊥
  told_fault x y f h k = let e = once x (Ok y) (Err f) h k in absurd (cc e)

  each_value : (xs : List X) (ys zs : List Y) → IsMadeOfEach R xs (Ok ys) → IsMadeOfEach R xs (Ok zs) → ys ≡ zs
  each_value [] ys zs h k = h ∙ sym k
  each_value (x ∷ xs) ys zs h k = h.2.1 ∙ ap₂ (λ a b. a ∷ b) (one_value x h.0 k.0 h.1 k.1) (each_value xs h.2.0 k.2.0 h.2.2 k.2.2) ∙ sym k.2.1

  each_told : (xs : List X) (ys : List Y) (f : F) → IsMadeOfEach R xs (Ok ys) → IsMadeOfEach R xs (Err f) → ⊥
  each_told [] ys f h k = k
  each_told (x ∷ xs) ys f h (inl k) = told_fault x h.0 f h.1 k
  each_told (x ∷ xs) ys f h (inr k) = each_told xs h.2.0 f h.2.2 k.2

  each_fault_one : (xs : List X) (f g : F) → IsMadeOfEach R xs (Err f) → IsMadeOfEach R xs (Err g) → f ≡ g
  each_fault_one [] f g h k = absurd h
  each_fault_one (x ∷ xs) f g (inl h) (inl k) = let e = once x (Err f) (Err g) h k in cc e
  each_fault_one (x ∷ xs) f g (inl h) (inr k) = absurd (told_fault x k.0 f k.1 h)
  each_fault_one (x ∷ xs) f g (inr h) (inl k) = absurd (told_fault x h.0 g h.1 k)
  each_fault_one (x ∷ xs) f g (inr h) (inr k) = each_fault_one xs f g h.2 k.2

one_first : {X : Type 0} (before xs ks ls : List X) → AreFirst before xs ks → AreFirst before xs ls → ks ≡ ls
one_first before [] ks ls h k = h ∙ sym k
one_first before (x ∷ xs) ks ls (inl h) (inl k) = one_first before xs ks ls h.1 k.1
one_first before (x ∷ xs) ks ls (inl h) (inr k) = absurd (k.0 h.0)
one_first before (x ∷ xs) ks ls (inr h) (inl k) = absurd (h.0 k.0)
one_first before (x ∷ xs) ks ls (inr h) (inr k) = h.1.1 ∙ ap (λ z. x ∷ z) (one_first (before ++ x ∷ []) xs h.1.0 k.1.0 h.1.2 k.1.2) ∙ sym k.1.1

one_distinct : {X : Type 0} (distinct : Bool) (xs ks ls : List X) → AreDistinct distinct xs ks → AreDistinct distinct xs ls → ks ≡ ls
one_distinct true xs ks ls h k = one_first [] xs ks ls h k
one_distinct false xs ks ls h k = h ∙ sym k

one_ordered : (falls : List Bool) (rows ys zs : List Keyed) → IsOrderedByKeys falls rows ys → IsOrderedByKeys falls rows zs → ys ≡ zs
one_ordered falls rows ys zs h k = one_order (λ a b. is_lt (compare_rows falls a b)) (rows_ranked falls) ys zs h.sorted k.sorted (λ x. h.stable x ∙ sym (k.stable x))

one_arranged : (falls : List Bool) (distinct : Bool) (limit : Option ℕ) (rows : List Keyed) (a b : List (List (List ℕ))) → AreArranged falls distinct limit rows a → AreArranged falls distinct limit rows b → a ≡ b
one_arranged falls distinct limit rows a b h k =
    let ordered : h.ordered ≡ k.ordered = one_ordered falls rows h.ordered k.ordered h.in_order k.in_order in
    let there = subst (λ z. AreDistinct distinct (map (λ row. row.fields) z) h.kept) ordered h.distinct_rows in
    let kept : h.kept ≡ k.kept = one_distinct distinct (map (λ row. row.fields) k.ordered) h.kept k.kept there k.distinct_rows in
    h.cut ∙ ap (limited limit) kept ∙ sym k.cut

module _ (one : HasOneOutcome) where
  field_once : (s : Scene) (item : TypedTree × List ℕ) → IsOne (IsField s item)
  field_once s item (Ok a) (Ok b) h k =
      let same : h.0 ≡ k.0 = let v = one s item.0 (Ok h.0) (Ok k.0) h.1 k.1 in cc v in
      ap Ok (h.2 ∙ ap (field_text s.terms.epoch) same ∙ sym k.2)
  field_once s item (Ok a) (Err g) h k = let v = one s item.0 (Ok h.0) (Err g) h.1 k in absurd (cc v)
  field_once s item (Err f) (Ok b) h k = let v = one s item.0 (Err f) (Ok k.0) h k.1 in absurd (cc v)
  field_once s item (Err f) (Err g) h k = let v = one s item.0 (Err f) (Err g) h k in let same : f ≡ g = cc v in ap Err same

  key_once : (s : Scene) (key : TypedTree × Bool) → IsOne (IsKey s key)
  key_once s key r q h k = one s key.0 r q h k

  module _ (select : TypedSelectParts) (s : Scene) where
    row_value : (a b : Keyed) → IsRowOf select s (Ok a) → IsRowOf select s (Ok b) → a ≡ b
    row_value a b h k =
        let fields : a.fields ≡ b.fields = each_value (IsField s) (field_once s) select.items a.fields b.fields h.0 k.0 in
        let keys : a.keys ≡ b.keys = each_value (IsKey s) (key_once s) select.keys a.keys b.keys h.1 k.1 in
        λ i. record { fields = fields i; keys = keys i }

    row_told : (a : Keyed) (f : PlacedFormula) → IsRowOf select s (Ok a) → IsRowOf select s (Err f) → ⊥
    row_told a f h (inl k) = each_told (IsField s) (field_once s) select.items a.fields f h.0 k
    row_told a f h (inr k) = each_told (IsKey s) (key_once s) select.keys a.keys f h.1 k.2

    row_fault : (f g : PlacedFormula) → IsRowOf select s (Err f) → IsRowOf select s (Err g) → f ≡ g
    row_fault f g (inl h) (inl k) = each_fault_one (IsField s) (field_once s) select.items f g h k
    row_fault f g (inl h) (inr k) = absurd (each_told (IsField s) (field_once s) select.items k.0 f k.1 h)
    row_fault f g (inr h) (inl k) = absurd (each_told (IsField s) (field_once s) select.items h.0 g h.1 k)
    row_fault f g (inr h) (inr k) = each_fault_one (IsKey s) (key_once s) select.keys f g h.2 k.2

  module _ (select : TypedSelectParts) (store : Store) (terms : Terms) where
    row_once : (tuple : List ℕ) → IsOne (IsTupleRow select store terms tuple)
    row_once tuple (Ok a) (Ok b) h k = ap Ok (row_value select (scene store select.from tuple terms) a b h k)
    row_once tuple (Ok a) (Err g) h k = absurd (row_told select (scene store select.from tuple terms) a g.1 h k.1)
    row_once tuple (Err f) (Ok b) h k = absurd (row_told select (scene store select.from tuple terms) b f.1 k h.1)
    row_once tuple (Err f) (Err g) h k =
        let there : f.0 ≡ g.0 = h.0 ∙ sym k.0 in
        let fault : f.1 ≡ g.1 = row_fault select (scene store select.from tuple terms) f.1 g.1 h.1 k.1 in
        λ i. Err (there i, fault i)

    plain_once : (kept : List (List ℕ)) → IsOne (IsPlainAnswer select store terms kept)
    plain_once kept (Ok a) (Ok b) h k =
        let rows : h.0 ≡ k.0 = each_value (IsTupleRow select store terms) row_once kept h.0 k.0 h.1 k.1 in
        let falls = map (λ key. key.1) select.keys in
        ap Ok (one_arranged falls select.distinct select.limit k.0 a b (subst (λ z. AreArranged falls select.distinct select.limit z a) rows h.2) k.2)
    plain_once kept (Ok a) (Err g) h k = absurd (each_told (IsTupleRow select store terms) row_once kept h.0 g h.1 k)
    plain_once kept (Err f) (Ok b) h k = absurd (each_told (IsTupleRow select store terms) row_once kept k.0 f k.1 h)
    plain_once kept (Err f) (Err g) h k = ap Err (each_fault_one (IsTupleRow select store terms) row_once kept f g h k)

    grouped_once : (kept : List (List ℕ)) → IsOne (IsGroupedAnswer select store terms kept)
    grouped_once kept (Ok a) (Ok b) h k =
        let rows : h.1.0 ≡ k.1.0 = rows_once one select store terms (groups_on select store terms kept) h.1.0 k.1.0 h.1.1 k.1.1 in
        let falls = map (λ key. key.1) select.keys in
        ap Ok (one_arranged falls select.distinct select.limit k.1.0 a b (subst (λ z. AreArranged falls select.distinct select.limit z a) rows h.1.2) k.1.2)
    grouped_once kept (Ok a) (Err g) h k = let e : None ≡ Some g = fault_once one select store terms kept None (Some g) h.0 k in absurd cc
    grouped_once kept (Err f) (Ok b) h k = let e : Some f ≡ None = fault_once one select store terms kept (Some f) None h k.0 in absurd cc
    grouped_once kept (Err f) (Err g) h k = let e : Some f ≡ Some g = fault_once one select store terms kept (Some f) (Some g) h k in let same : f ≡ g = cc in ap Err same

    pub answer_once : (kept : List (List ℕ)) → IsOne (IsAnswerOnKept select store terms kept)
    answer_once kept = by select.grouped
      where
        by : (b : Bool) → IsOne (IsAnswerBy b select store terms kept)
        by false = plain_once kept
        by true = grouped_once kept
