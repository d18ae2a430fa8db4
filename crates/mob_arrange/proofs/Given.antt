-- Rows are cut and printed.
use Rattle.std.{proofs.Common.{◌≡◌, ℕ, ℤ, Bool, List, [], ◌∷◌, Option, Some, None, map, drop, refl, sym, ap, subst}, proofs.lemmas.List.{take-map}}
use Rattle.mob_value.specs.declared.value.Value.{Value}
use Rattle.mob_literal.specs.Fields.{field_text}
use Rattle.mob_arrange.{specs.Keyed.{Keyed, row_of_values}, specs.Order.{IsOrderedByKeys}, specs.Rows.{AreDistinct, limited}, specs.RowsText.{IsTextOfGiven, IsTextOfArranged}}

-- cutting and then printing is printing and then cutting
pub cut_before : {X Y : Type 0} (f : X → Y) (limit : Option ℕ) (xs : List X) → map f (limited limit xs) ≡ limited limit (map f xs)
cut_before f None xs = refl
cut_before f (Some n) xs = sym (take-map f n xs)

module _ (day : ℤ) (keys : ℕ) where
  printed_fields : (rows : List (List Value)) → map (λ (row : List Value). map (field_text day) (drop keys row)) rows ≡ map (λ (row : Keyed). row.fields) (map (row_of_values day keys) rows)
  printed_fields [] = refl
  printed_fields (row ∷ rows) = ap (λ z. map (field_text day) (drop keys row) ∷ z) (printed_fields rows)

  pub text_arranged : (names : List (List ℕ)) (falls : List Bool) (distinct : Bool) (limit : Option ℕ) (rows ordered : List (List Value)) (text : List ℕ) → IsOrderedByKeys falls (map (row_of_values day keys) rows) (map (row_of_values day keys) ordered)
      → IsTextOfGiven names distinct limit (map (λ row. map (field_text day) (drop keys row)) ordered) text → IsTextOfArranged names falls distinct limit (map (row_of_values day keys) rows) text
  text_arranged names falls distinct limit rows ordered text order given = (
    limited limit given.0,
    record {
      ordered = map (row_of_values day keys) ordered;
      in_order = order;
      kept = given.0;
      distinct_rows = subst (λ z. AreDistinct distinct z given.0) (printed_fields ordered) given.1;
      cut = refl;
    },
    given.2,
  )
