-- The fields of a table file.
use Rattle.std.specs.Prelude.{ℤ, [], ◌∷◌, codes, Bool, true, false, ◌&&◌, cond, nat_eq}
use Rattle.mob_language.specs.Language.{Text}
use Rattle.mob_slice.specs.Sameness.{same_bytes}
use Rattle.mob_ast.specs.declared.types.SqlType.{SqlType}
use Rattle.mob_value.specs.declared.value.Value.{Value}
use Rattle.mob_literal.specs.SqlText.{value_text}
use Rattle.mob_ast.specs.declared.types.SqlType.TheVariants as sql
use Rattle.mob_value.specs.declared.value.Value.TheVariants as value

-- the field \N
abbrev pub is_null_text : Text → Bool
is_null_text field = same_bytes field (codes "\\N")

abbrev pub is_empty : Text → Bool
is_empty [] = true
is_empty (c ∷ cs) = false

-- A field is NULL if it is \N. In a column of any type but text it is also NULL if it is empty.
abbrev pub is_null_field : SqlType → Text → Bool
is_null_field sql.Text field = is_null_text field
is_null_field type field = cond (is_empty field) true (is_null_text field)

abbrev pub begins_with_backslash : Text → Bool
begins_with_backslash [] = false
begins_with_backslash (c ∷ cs) = nat_eq c 92

-- a text that begins with a backslash gets one more in front
unfoldable pub doubled : Text → Text
doubled text = cond (begins_with_backslash text) (92 ∷ text) text

-- a text that begins with two backslashes loses one
unfoldable pub undoubled : Text → Text
undoubled [] = []
undoubled (c ∷ cs) = cond (nat_eq c 92 && begins_with_backslash cs) cs (c ∷ cs)

-- the text of a field other than NULL
abbrev pub text_of_field : SqlType → Text → Text
text_of_field sql.Text field = undoubled field
text_of_field type field = field

-- the field of a value: \N for NULL, and else the printed text; a text that begins with a backslash
-- gets one more in front
abbrev pub field_text : ℤ → Value → Text
field_text day value.Null = codes "\\N"
field_text day (value.Text text) = doubled text
field_text day v = value_text day v
