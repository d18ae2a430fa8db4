-- Worked scripts with tables, rows, keys and `*`, computed by the definition.
use Rattle.std.specs.Prelude.{◌≡◌, ◌+◌, ◌*◌, ◌/◌, ◌%◌, ℕ, zero, suc, List, [], ◌∷◌, ◌++◌, false, None, Some, Ok, codes, refl}
use Rattle.mob_ast.{specs.declared.types.Word.{Word}, specs.declared.types.TypeWord.{TypeWord}, specs.declared.expression.Node.TheVariants.{Null, True, Sign}}
use Rattle.mob_ast.specs.Trees.{Tree, tree, none, every, one, FromParts, StatementParts, create_table, insert, select}
use Rattle.mob_operators.specs.Table.{table}
use Rattle.mob_expression.{specs.Words.{type_words, geometry_words}, specs.Expressions.{typed_before_operands, finished, digits_of, digits_in, typed_expression, typed_operands}}
use Rattle.mob_typed.{specs.Trees.{typed, none as no_args}, specs.Statements.{ColumnList, new_table, new_rows, query}}
use Rattle.mob_typing.specs.Statements.{node_value, typed_statement, typed_script}
use Rattle.mob_script_rows.proofs.Examples.{word, type_word, leaf, number, string, literal, column, refused, refused_in}
use Rattle.mob_ast.specs.declared.types.SqlType.TheVariants as sql
use Rattle.mob_ast.specs.declared.refusal.Kind.TheVariants as kind
use Rattle.mob_operators.specs.declared.operator.Op.TheVariants as op

-- the column of this name and type, whose type is two bytes after the beginning of a name of one
-- letter
abbrev new_column : List ℕ → ℕ → List ℕ → Word × TypeWord
new_column name p ty = (word name p, type_word ty (p + 2))

abbrev from_table : List ℕ → ℕ → FromParts
from_table name p = record { table = word name p; alias = None; on = None }

-- CREATE TABLE t (a int); CREATE TABLE u (a int); SELECT a FROM t, u
a_bare_name_of_two_tables : typed_script (create_table (word (codes "t") 13) (new_column (codes "a") 16 (codes "int") ∷ []) ∷ create_table (word (codes "u") 37) (new_column (codes "a") 40 (codes "int") ∷ [])
    ∷ select (record { distinct = false; items = one (column (codes "a") 55) None ∷ []; from = from_table (codes "t") 62 ∷ from_table (codes "u") 65 ∷ []; cond = None; groups = []; keys = []; limit = None }) ∷ []) ≡ refused_in 3 kind.Duplicate 55
unfolding typed_statement typed_expression typed_operands typed_before_operands finished digits_of digits_in node_value table type_words geometry_words
a_bare_name_of_two_tables = refl

-- SELECT 5 AS n ORDER BY n: the key is the column of this name, without a second constant
a_key_by_its_name : typed_script (select (record { distinct = false; items = one (number (codes "5") 7) (Some (word (codes "n") 12)) ∷ []; from = []; cond = None; groups = []; keys = record { value = column (codes "n") 23; descending = false } ∷ []; limit = None }) ∷ [])
    ≡ Ok (record { statements = query (record { distinct = false; items = (typed (op.Const 0) sql.Int 7 no_args, codes "n") ∷ []; from = []; names = []; joins = []; cond = None; grouped = false; groups = []; aggs = None ∷ []; keys = (typed (op.Const 0) sql.Int 7 no_args, false) ∷ []; key_items = Some 0 ∷ []; limit = None }) ∷ []; consts = record { ty = sql.Int; text = codes "5"; statement = 1; place = 7 } ∷ [] })
unfolding typed_statement typed_expression typed_operands typed_before_operands finished digits_of digits_in node_value table type_words geometry_words
a_key_by_its_name = refl

-- SELECT *
a_star_without_tables : typed_script (select (record { distinct = false; items = every 7 ∷ []; from = []; cond = None; groups = []; keys = []; limit = None }) ∷ []) ≡ refused kind.UnknownName 7
unfolding typed_statement typed_expression typed_operands typed_before_operands finished digits_of digits_in node_value table type_words geometry_words
a_star_without_tables = refl

-- c00 int, c01 int, ..: this many columns, from the one of number k on, in a table whose first
-- column is at byte 16
abbrev numbered : ℕ → List ℕ
numbered k = codes "c" ++ (48 + k / 10) ∷ (48 + k % 10) ∷ []

abbrev columns_from : ℕ → ℕ → List (Word × TypeWord)
columns_from k zero = []
columns_from k (suc n) = (word (numbered k) (16 + 9 * k), type_word (codes "int") (20 + 9 * k)) ∷ columns_from (k + 1) n

abbrev ints_from : ℕ → ℕ → ColumnList
ints_from k zero = []
ints_from k (suc n) = (numbered k, sql.Int) ∷ ints_from (k + 1) n

-- CREATE TABLE t (c00 int, c01 int, .., c63 int)
sixty_four_columns : typed_script (create_table (word (codes "t") 13) (columns_from 0 64) ∷ []) ≡ Ok (record { statements = new_table 0 (codes "t") (ints_from 0 64) ∷ []; consts = [] })
unfolding typed_statement typed_expression typed_operands typed_before_operands finished digits_of digits_in node_value table type_words geometry_words
sixty_four_columns = refl

-- CREATE TABLE t (c00 int, c01 int, .., c64 int)
a_column_too_many : typed_script (create_table (word (codes "t") 13) (columns_from 0 65) ∷ []) ≡ refused kind.Limit 592
unfolding typed_statement typed_expression typed_operands typed_before_operands finished digits_of digits_in node_value table type_words geometry_words
a_column_too_many = refl

-- CREATE TABLE t (a int, b text)
abbrev ints_and_texts : StatementParts
ints_and_texts = create_table (word (codes "t") 13) (new_column (codes "a") 16 (codes "int") ∷ new_column (codes "b") 23 (codes "text") ∷ [])

-- the same; INSERT INTO t VALUES with one row, whose bracket is at byte 53
abbrev with_row : List Tree → List StatementParts
with_row values = ints_and_texts ∷ insert (word (codes "t") 44) (record { place = 53; values = values } ∷ []) ∷ []

-- .. VALUES (-1, 'x'): a sign belongs to its number, which has the place of its digits
a_row_of_both : typed_script (with_row (tree (Sign (codes "-")) 54 (leaf (number (codes "1") 55)) ∷ string (codes "x") 58 ∷ []))
    ≡ Ok (record { statements = new_table 0 (codes "t") ((codes "a", sql.Int) ∷ (codes "b", sql.Text) ∷ []) ∷ new_rows 0 ((Some 0 ∷ Some 1 ∷ []) ∷ []) (53 ∷ []) ∷ []; consts = record { ty = sql.Int; text = codes "-1"; statement = 2; place = 55 } ∷ record { ty = sql.Text; text = codes "x"; statement = 2; place = 58 } ∷ [] })
unfolding typed_statement typed_expression typed_operands typed_before_operands finished digits_of digits_in node_value table type_words geometry_words
a_row_of_both = refl

-- .. VALUES (NULL, 5): a NULL needs no constant, and a number is read as the column's type
a_row_with_a_null : typed_script (with_row (tree Null 54 none ∷ number (codes "5") 60 ∷ []))
    ≡ Ok (record { statements = new_table 0 (codes "t") ((codes "a", sql.Int) ∷ (codes "b", sql.Text) ∷ []) ∷ new_rows 0 ((None ∷ Some 0 ∷ []) ∷ []) (53 ∷ []) ∷ []; consts = record { ty = sql.Text; text = codes "5"; statement = 2; place = 60 } ∷ [] })
unfolding typed_statement typed_expression typed_operands typed_before_operands finished digits_of digits_in node_value table type_words geometry_words
a_row_with_a_null = refl

-- .. VALUES (1)
a_row_too_short : typed_script (with_row (number (codes "1") 54 ∷ [])) ≡ refused_in 2 kind.BadCount 53
unfolding typed_statement typed_expression typed_operands typed_before_operands finished digits_of digits_in node_value table type_words geometry_words
a_row_too_short = refl

-- .. VALUES (1, ttext 'x@2001-01-01')
a_value_of_another_type : typed_script (with_row (number (codes "1") 54 ∷ literal (codes "ttext") 57 (codes "x@2001-01-01") 63 ∷ [])) ≡ refused_in 2 kind.NoSuchOperator 63
unfolding typed_statement typed_expression typed_operands typed_before_operands finished digits_of digits_in node_value table type_words geometry_words
a_value_of_another_type = refl

-- .. VALUES (TRUE, 'x')
true_beside_an_int : typed_script (with_row (tree True 54 none ∷ string (codes "x") 60 ∷ [])) ≡ refused_in 2 kind.NoSuchOperator 54
unfolding typed_statement typed_expression typed_operands typed_before_operands finished digits_of digits_in node_value table type_words geometry_words
true_beside_an_int = refl
