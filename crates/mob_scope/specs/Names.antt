-- Lists of entries by name, and the columns of a table.
use Rattle.std.{specs.Prelude.{◌+◌, ℕ, List, [], ◌∷◌, Bool, Option, Some, None, is_some, if◌then◌else◌}, specs.Str.{bytes_eq}}
use Rattle.mob_ast.specs.declared.types.SqlType.{SqlType}

-- the number and the content of the first entry with this name, counted from n
abbrev pub entry_from : {A : Type 0} → ℕ → List (List ℕ × A) → List ℕ → Option (ℕ × A)
entry_from n [] name = None
entry_from n (e ∷ es) name = if bytes_eq name e.0 then Some (n, e.1) else entry_from (n + 1) es name

-- whether an entry has this name
abbrev pub has_entry : {A : Type 0} → List (List ℕ × A) → List ℕ → Bool
has_entry es name = is_some (entry_from 0 es name)

-- the number and the type of the column with this name
abbrev pub column_of : List (List ℕ × SqlType) → List ℕ → Option (ℕ × SqlType)
column_of columns name = entry_from 0 columns name
