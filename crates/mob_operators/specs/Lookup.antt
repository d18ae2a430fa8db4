-- How operators are looked up in a table.
use Rattle.std.specs.Prelude.{◌==◌, ◌&&◌, ℕ, List, [], ◌∷◌, Bool, true, false, Option, Some, None, map, slice_get, option_map, option_and_then, is_some, if◌then◌else◌}
use Rattle.std.{specs.List.{list_any, list_all}, specs.Option.{option_or}, specs.Str.{bytes_eq}}
use Rattle.mob_ast.specs.declared.types.SqlType.{SqlType}
use Rattle.mob_operators.{specs.declared.operator.Spelling.{Spelling}, specs.declared.operator.Op.{Op}, specs.declared.table.Bond.{Bond}, specs.declared.table.ResultType.{ResultType}}
use Rattle.mob_operators.specs.declared.table.Row.{Row}
use Rattle.mob_ast.specs.declared.types.SqlType.TheVariants as sql
use Rattle.mob_operators.specs.declared.operator.Spelling.TheVariants as form
use Rattle.mob_operators.specs.declared.table.Bond.TheVariants as bond
use Rattle.mob_operators.specs.declared.table.ResultType.TheVariants as gives

-- A line of the table: how its operators are written, the operators with their names, the types
-- that it takes for each argument, the condition on the arguments beyond their types, and the type
-- of the result.
pub record Line : Type 0 where
  pub form : Spelling
  pub names : List (List ℕ × Op)
  pub takes : List (List SqlType)
  pub bond : Bond
  pub gives : ResultType

-- a row of the program's table as such a line
abbrev pub line_of : Row → Line
line_of r = record { form = r.form; names = map (λ n. (n.0.now, n.1)) r.names.now; takes = map (λ c. c.now) r.takes.now; bond = r.bond; gives = r.gives }

abbrev pub lines_of : List Row → List Line
lines_of rows = map line_of rows

-- the number of a type among the fifteen
abbrev pub type_number : SqlType → ℕ
type_number sql.Bool = 0
type_number sql.Int = 1
type_number sql.Numeric = 2
type_number sql.Text = 3
type_number sql.Moment = 4
type_number sql.Point = 5
type_number sql.Polygon = 6
type_number sql.Span = 7
type_number sql.SpanSet = 8
type_number sql.Box = 9
type_number sql.TBool = 10
type_number sql.TInt = 11
type_number sql.TFrac = 12
type_number sql.TText = 13
type_number sql.TPoint = 14

-- whether two types are the same
abbrev pub same_type : SqlType → SqlType → Bool
same_type a b = type_number a == type_number b

abbrev form_number : Spelling → ℕ
form_number form.Word = 0
form_number form.Sign = 1
form_number form.Call = 2

-- whether two forms are the same
abbrev pub same_form : Spelling → Spelling → Bool
same_form a b = form_number a == form_number b

-- whether a type is one of these
abbrev pub has_type : List SqlType → SqlType → Bool
has_type class ty = list_any (λ t. same_type t ty) class

-- whether a type is temporal
abbrev pub is_temporal : SqlType → Bool
is_temporal ty = has_type (sql.TBool ∷ sql.TInt ∷ sql.TFrac ∷ sql.TText ∷ sql.TPoint ∷ []) ty

-- whether all numbers of a type are whole
abbrev pub is_whole_type : SqlType → Bool
is_whole_type ty = has_type (sql.Int ∷ sql.TInt ∷ []) ty

-- whether there are as many types as classes, and each type is in the class at its position
abbrev pub types_fit : List (List SqlType) → List SqlType → Bool
types_fit [] [] = true
types_fit [] (t ∷ ts) = false
types_fit (c ∷ cs) [] = false
types_fit (c ∷ cs) (t ∷ ts) = has_type c t && types_fit cs ts

-- whether there are exactly two types, and they are the same
abbrev pub are_same : List SqlType → Bool
are_same [] = false
are_same (a ∷ []) = false
are_same (a ∷ b ∷ []) = same_type a b
are_same (a ∷ b ∷ c ∷ ts) = false

-- whether arguments of these types meet the condition of a line; `literal` says whether the last
-- one is a number literal
abbrev pub meets : Bond → List SqlType → Bool → Bool
meets bond.Free ts literal = true
meets bond.OneMoving ts literal = list_any is_temporal ts
meets bond.SameType ts literal = are_same ts
meets bond.ByLiteral ts literal = literal

-- the type that a line gives for arguments of these types
abbrev pub given : ResultType → List SqlType → Option SqlType
given (gives.Only ty) ts = Some ty
given gives.First ts = slice_get ts 0
given (gives.Whole whole other) ts = Some (if list_all is_whole_type ts then whole else other)

-- the operator with this name
abbrev pub operator_named : List (List ℕ × Op) → List ℕ → Option Op
operator_named [] name = None
operator_named (n ∷ ns) name = if bytes_eq n.0 name then Some n.1 else operator_named ns name

-- the operator of a line with this form and name
abbrev pub operator_in : Line → Spelling → List ℕ → Option Op
operator_in l form name = if same_form l.form form then operator_named l.names name else None

-- whether a line takes these arguments
abbrev pub takes : Line → List SqlType → Bool → Bool
takes l ts literal = types_fit l.takes ts && meets l.bond ts literal

-- the operator of a line with this form and name, and the type of its result, if it takes these
-- arguments
abbrev pub answer_of : Line → Spelling → List ℕ → List SqlType → Bool → Option (Op × SqlType)
answer_of l form name ts literal = option_and_then (λ op. if takes l ts literal then option_map (λ ty. (op, ty)) (given l.gives ts) else None) (operator_in l form name)

-- The operator and the result type of a call with this form and name, for arguments of these types:
-- those of the first line that takes them. `literal` says whether the last argument is a number
-- literal.
abbrev pub found_in : List Line → Spelling → List ℕ → List SqlType → Bool → Option (Op × SqlType)
found_in [] form name ts literal = None
found_in (l ∷ ls) form name ts literal = option_or (answer_of l form name ts literal) (found_in ls form name ts literal)

-- whether any line has a function with this name
abbrev pub has_function : List Line → List ℕ → Bool
has_function ls name = list_any (λ l. is_some (operator_in l form.Call name)) ls
