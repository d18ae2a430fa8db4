-- The texts of the values of a ttext.
--
-- A value is written in double quotes, with a backslash before each of its double quotes and
-- backslashes. Or it is bare: at least one character, without blanks at its ends and without any of
-- @ , { } [ ] ( ) and double quotes.
use Rattle.std.{specs.Prelude.{◌≡◌, ℕ, [], ◌∷◌, ◌++◌, codes, Bool, true, false, ◌||◌, ◌&&◌, not, cond, nat_eq, Option, Some, None}, specs.Str.{is_utf8}}
use Rattle.mob_language.{specs.Language.{Text, Language, ◌∣◌, Where, ManyOf, is_blank}, specs.Readers.{TextReader, ◌>>=◌, or_at, text_where, behind_at, split_while}}

-- a double quote or a backslash
abbrev pub is_escaped : ℕ → Bool
is_escaped c = nat_eq c 34 || nat_eq c 92

-- the value with a backslash before each of its double quotes and backslashes
abbrev pub escaped : Text → Text
escaped [] = []
escaped (c ∷ cs) = cond (is_escaped c) (92 ∷ c ∷ escaped cs) (c ∷ escaped cs)

-- the value in double quotes, as it is printed
unfoldable pub quoted_text : Text → Text
quoted_text v = codes "\"" ++ (escaped v ++ codes "\"")

abbrev pub quoted : Language Text
quoted text v = text ≡ quoted_text v

-- none of @ , { } [ ] ( ) "
abbrev pub is_plain : ℕ → Bool
is_plain c = not (nat_eq c 64 || (nat_eq c 44 || (nat_eq c 123 || (nat_eq c 125 || (nat_eq c 91 || (nat_eq c 93 || (nat_eq c 40 || (nat_eq c 41 || nat_eq c 34))))))))

abbrev pub begins_well : Text → Bool
begins_well [] = false
begins_well (c ∷ cs) = not (is_blank c)

abbrev pub ends_well : Text → Bool
ends_well [] = false
ends_well (c ∷ []) = not (is_blank c)
ends_well (c ∷ d ∷ cs) = ends_well (d ∷ cs)

-- at least one byte, and no blank at either end
abbrev pub is_bare : Text → Bool
is_bare v = begins_well v && ends_well v

abbrev pub bare : Language Text
bare = Where is_bare (ManyOf is_plain)

-- a value of a ttext; like all text it is UTF-8
abbrev pub text_value : Language Text
text_value = Where is_utf8 (quoted ∣ bare)

-- ---- the readers of these languages

abbrev pub put_first : ℕ → Option (Text × Text) → Option (Text × Text)
put_first c read = read >>= λ x. Some (c ∷ x.0, x.1)

-- the value up to its closing quote, and the rest of the text; `pending` says whether a backslash
-- is before the first byte
unfoldable pub unescaped_at : Bool → TextReader Text
unescaped_at pending [] = None
unescaped_at true (c ∷ cs) = cond (is_escaped c) (put_first c (unescaped_at false cs)) None
unescaped_at false (c ∷ cs) = cond (nat_eq c 34) (Some ([], cs)) (cond (nat_eq c 92) (unescaped_at true cs) (put_first c (unescaped_at false cs)))

unfoldable pub quoted_at : TextReader Text
quoted_at = behind_at (codes "\"") (unescaped_at false)

abbrev pub put_before : ℕ → Text × Text → Text × Text
put_before c ([], blanks) = cond (is_blank c) ([], c ∷ blanks) (c ∷ [], blanks)
put_before c (d ∷ ds, blanks) = (c ∷ d ∷ ds, blanks)

-- a text without the blanks at its end, and those blanks
unfoldable pub trimmed : Text → Text × Text
trimmed [] = ([], [])
trimmed (c ∷ cs) = put_before c (trimmed cs)

abbrev pub bare_of : Text × Text → Text → Option (Text × Text)
bare_of parts rest = cond (is_bare parts.0) (Some (parts.0, parts.1 ++ rest)) None

unfoldable pub bare_at : TextReader Text
bare_at text = bare_of (trimmed (split_while is_plain text).0) (split_while is_plain text).1

unfoldable pub text_value_at : TextReader Text
text_value_at = text_where is_utf8 (or_at quoted_at bare_at)
