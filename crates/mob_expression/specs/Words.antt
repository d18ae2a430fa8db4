-- Words and numbers of a script: the types that words name, the type of a number, and whether it is
-- 0.
use Rattle.std.{specs.Prelude.{◌==◌, ◌&&◌, not, ℕ, List, [], ◌∷◌, Bool, true, false, Option, Some, None, codes, drop, if◌then◌else◌}, specs.List.{list_all}}
use Rattle.std.{specs.Char.{is_ascii_digit, to_ascii_lowercase}, specs.Str.{bytes_eq}}
use Rattle.mob_language.{specs.Language.{is_blank}, specs.NonZero.{has_figure}}
use Rattle.mob_ast.{specs.declared.types.Word.{Word}, specs.declared.types.SqlType.{SqlType}}
use Rattle.mob_ast.specs.declared.types.SqlType.TheVariants as sql

-- the type with this name in the list
abbrev pub type_among : List (List ℕ × SqlType) → List ℕ → Option SqlType
type_among [] name = None
type_among (n ∷ ns) name = if bytes_eq n.0 name then Some n.1 else type_among ns name

-- the types with one word; `geometry` has a second word in brackets
unfoldable pub type_words : List (List ℕ × SqlType)
type_words =
    (codes "bool", sql.Bool) ∷ (codes "boolean", sql.Bool) ∷ (codes "int", sql.Int) ∷ (codes "integer", sql.Int) ∷ (codes "numeric", sql.Numeric) ∷ (codes "text", sql.Text)
    ∷ (codes "timestamptz", sql.Moment) ∷ (codes "tstzspan", sql.Span) ∷ (codes "tstzspanset", sql.SpanSet) ∷ (codes "stbox", sql.Box)
    ∷ (codes "tbool", sql.TBool) ∷ (codes "tint", sql.TInt) ∷ (codes "tfrac", sql.TFrac) ∷ (codes "tfloat", sql.TFrac) ∷ (codes "ttext", sql.TText) ∷ (codes "tgeompoint", sql.TPoint) ∷ []

unfoldable pub geometry_words : List (List ℕ × SqlType)
geometry_words = (codes "point", sql.Point) ∷ (codes "polygon", sql.Polygon) ∷ []

-- the type that these words name
abbrev pub type_named : List ℕ → Option Word → Option SqlType
type_named name None = type_among type_words name
type_named name (Some inner) = if bytes_eq name (codes "geometry") then type_among geometry_words inner.text else None

-- a number with only digits is an int, any other is numeric
abbrev pub number_type : List ℕ → SqlType
number_type s = if list_all is_ascii_digit s then sql.Int else sql.Numeric

-- whether a number is 0: it has no digit other than 0 before its exponent and its slash
abbrev pub is_zero : List ℕ → Bool
is_zero s = not (has_figure s)

-- the text after its blanks at the front
abbrev pub skip_blanks : List ℕ → List ℕ
skip_blanks [] = []
skip_blanks (b ∷ bs) = if is_blank b then skip_blanks bs else b ∷ bs

-- whether a text begins with this lower-case word, ignoring case
abbrev pub begins_with_word : List ℕ → List ℕ → Bool
begins_with_word s [] = true
begins_with_word [] (w ∷ ws) = false
begins_with_word (b ∷ bs) (w ∷ ws) = to_ascii_lowercase b == w && begins_with_word bs ws

-- the text after its digits at the front
abbrev pub skip_digits : List ℕ → List ℕ
skip_digits [] = []
skip_digits (b ∷ bs) = if is_ascii_digit b then skip_digits bs else b ∷ bs

-- the text after `SRID=`, at least one digit, `;` and the blanks around it, if it begins with
-- these; else the whole text
abbrev pub after_semicolon : List ℕ → List ℕ → List ℕ
after_semicolon whole [] = whole
after_semicolon whole (b ∷ bs) = if b == 59 then skip_blanks bs else whole

abbrev pub after_digits : List ℕ → List ℕ → List ℕ
after_digits whole [] = whole
after_digits whole (b ∷ bs) = if is_ascii_digit b then after_semicolon whole (skip_blanks (skip_digits bs)) else whole

abbrev pub after_srid : List ℕ → List ℕ
after_srid s = if begins_with_word s (codes "srid=") then after_digits s (drop 5 s) else s

-- whether a text of a geometry is that of a polygon: after blanks and an SRID with any number, it
-- begins with `polygon`
abbrev pub is_polygon : List ℕ → Bool
is_polygon s = begins_with_word (after_srid (skip_blanks s)) (codes "polygon")

abbrev pub geometry_type : List ℕ → SqlType
geometry_type s = if is_polygon s then sql.Polygon else sql.Point

-- the type of a typed string; for `geometry` without brackets the string decides
abbrev pub literal_type : List ℕ → Option Word → List ℕ → Option SqlType
literal_type name None s = if bytes_eq name (codes "geometry") then Some (geometry_type s) else type_named name None
literal_type name (Some inner) s = type_named name (Some inner)
