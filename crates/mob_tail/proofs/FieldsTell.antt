-- Two values of one column have the same field only if they are the same value.
use Rattle.std.proofs.Common.{◌≡◌, ◌∙◌, inl, inr, ℤ, Ok, ap, sym, subst, true≢false}
use Rattle.mob_ast.specs.declared.types.SqlType.{SqlType}
use Rattle.mob_value.{specs.declared.value.Value.{Value}, specs.declared.value.Value.TheVariants.{Null}}
use Rattle.mob_literal.{specs.Fields.{field_text, is_null_field, text_of_field}, specs.SqlReadable.{IsReadableAs}, specs.SqlText.{SaysAs}, proofs.FieldsAgain.{field_again, null_again}}
use Rattle.mob_literal.proofs.SqlReading.{one_sql_reading}
use Rattle.mob_tail.specs.GroupLaws.{IsStoredAs}

-- the field of NULL differs from all others
own_field : {R : Type 0} (type : SqlType) (day : ℤ) (v : Value) → IsReadableAs type day v → field_text day Null ≡ field_text day v → R
own_field type day v h e = absurd (true≢false (sym (null_again type day) ∙ ap (is_null_field type) e ∙ (field_again type day v h).there))

pub fields_tell : (type : SqlType) (day : ℤ) (v w : Value) → IsStoredAs type day v → IsStoredAs type day w → field_text day v ≡ field_text day w → v ≡ w
fields_tell type day v w (inl h) (inl k) e = h ∙ sym k
fields_tell type day v w (inl h) (inr k) e = own_field type day w k (ap (field_text day) (sym h) ∙ e)
fields_tell type day v w (inr h) (inl k) e = own_field type day v h (ap (field_text day) (sym k) ∙ sym e)
fields_tell type day v w (inr h) (inr k) e =
    let first = (field_again type day v h).says in
    let second = subst (λ f. SaysAs type day (text_of_field type f) (Ok w)) (sym e) (field_again type day w k).says in
    let same = one_sql_reading type day (text_of_field type (field_text day v)) (Ok v) (Ok w) (λ n. cc) (λ n. cc) first second in
    cc same
