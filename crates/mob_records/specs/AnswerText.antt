-- The text of an answer: a record of the column names, a record for each row, and a line with the
-- number of rows.
use Rattle.std.{specs.Prelude.{◌==◌, ◌||◌, ◌++◌, Bool, ℕ, List, [], ◌∷◌, if◌then◌else◌, codes, decimal, length, map}, specs.List.{concat, join_with_byte, list_any}}

-- a comma, a double quote, a carriage return or a line feed
abbrev pub is_special : ℕ → Bool
is_special b = (b == 44) || ((b == 34) || ((b == 13) || (b == 10)))

-- the field with each of its double quotes written twice
abbrev pub with_doubled_quotes : List ℕ → List ℕ
with_doubled_quotes [] = []
with_doubled_quotes (b ∷ rest) = if b == 34 then 34 ∷ b ∷ with_doubled_quotes rest else b ∷ with_doubled_quotes rest

-- the field in double quotes, its own doubled
abbrev pub quoted_field : List ℕ → List ℕ
quoted_field field = 34 ∷ (with_doubled_quotes field ++ 34 ∷ [])

-- a field is in double quotes exactly if it has a special character
abbrev pub record_field : List ℕ → List ℕ
record_field field = if list_any is_special field then quoted_field field else field

-- The fields of a record with commas between them, and a line feed. A record is never an empty
-- line: a record of one empty field, or of none, is two double quotes.
abbrev pub record_line : List (List ℕ) → List ℕ
record_line [] = 34 ∷ 34 ∷ 10 ∷ []
record_line ([] ∷ []) = 34 ∷ 34 ∷ 10 ∷ []
record_line (field ∷ rest) = join_with_byte 44 (map record_field (field ∷ rest)) ++ 10 ∷ []

-- the line `(n rows)`; the word is `rows` for every n
abbrev pub count_line : ℕ → List ℕ
count_line n = codes "(" ++ decimal n ++ codes " rows)\n"

-- the text of an answer with these names and rows
abbrev pub answer_text : List (List ℕ) → List (List (List ℕ)) → List ℕ
answer_text names rows = concat (map record_line (names ∷ rows)) ++ count_line (length rows)
