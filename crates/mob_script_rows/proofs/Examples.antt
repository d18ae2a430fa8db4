-- Worked scripts, computed by the definition.
use Rattle.std.specs.Prelude.{◌≡◌, ℕ, List, [], ◌∷◌, false, Option, Some, None, Result, Ok, Err, codes, refl}
use Rattle.mob_ast.{specs.declared.types.Word.{Word}, specs.declared.types.TypeWord.{TypeWord}, specs.declared.refusal.Kind.{Kind}, specs.declared.refusal.Refusal.{Refusal}}
use Rattle.mob_ast.{specs.declared.expression.Node.TheVariants.{Number, Str, Literal, Column, Call, Sign}, specs.Trees.{Tree, tree, Trees, none, more, one, StatementParts, create_table, select}}
use Rattle.mob_operators.specs.Table.{table}
use Rattle.mob_expression.{specs.Words.{type_words, geometry_words}, specs.Expressions.{typed_before_operands, finished, digits_of, digits_in, typed_expression, typed_operands}}
use Rattle.mob_typed.{specs.Trees.{typed, none as no_args}, specs.Statements.{ScriptOut, query}}
use Rattle.mob_typing.specs.Statements.{typed_statement, typed_script}
use Rattle.mob_ast.specs.declared.types.SqlType.TheVariants as sql
use Rattle.mob_ast.specs.declared.refusal.Kind.TheVariants as kind
use Rattle.mob_operators.specs.declared.operator.Op.TheVariants as op

abbrev pub word : List ℕ → ℕ → Word
word text place = record { text = text; place = place }

abbrev pub type_word : List ℕ → ℕ → TypeWord
type_word text place = record { name = word text place; inner = None }

abbrev pub leaf : Tree → Trees
leaf t = more t none

abbrev pub pair : Tree → Tree → Trees
pair a b = more a (more b none)

abbrev pub number : List ℕ → ℕ → Tree
number text p = tree (Number text) p none

abbrev pub string : List ℕ → ℕ → Tree
string text p = tree (Str text) p none

abbrev pub literal : List ℕ → ℕ → List ℕ → ℕ → Tree
literal ty q text p = tree (Literal (type_word ty q) text) p none

abbrev pub column : List ℕ → ℕ → Tree
column name p = tree (Column None (word name p)) p none

abbrev pub asked : Tree → Option Word → StatementParts
asked t limit = select (record { distinct = false; items = one t None ∷ []; from = []; cond = None; groups = []; keys = []; limit = limit })

abbrev pub refused_in : ℕ → Kind → ℕ → Result ScriptOut Refusal
refused_in n k p = Err (record { kind = k; statement = n; place = p })

abbrev pub refused : Kind → ℕ → Result ScriptOut Refusal
refused k p = refused_in 1 k p

-- SELECT tfrac '1@2001-01-01' * tfrac '2@2001-01-01'
a_linear_product : typed_script (asked (tree (Sign (codes "*")) 28 (pair (literal (codes "tfrac") 7 (codes "1@2001-01-01") 13) (literal (codes "tfrac") 30 (codes "2@2001-01-01") 36))) None ∷ []) ≡ refused kind.LinearProduct 28
unfolding typed_statement typed_expression typed_operands typed_before_operands finished digits_of digits_in table type_words geometry_words
a_linear_product = refl

-- SELECT tDwithin(tgeompoint 'POINT(0 0)@2001-01-01', geometry 'POINT(1 1)', 2)
an_irrational : typed_script (asked (tree (Call (codes "tdwithin")) 7 (more (literal (codes "tgeompoint") 16 (codes "POINT(0 0)@2001-01-01") 27) (pair (literal (codes "geometry") 52 (codes "POINT(1 1)") 61) (number (codes "2") 75)))) None ∷ []) ≡ refused kind.Irrational 7
unfolding typed_statement typed_expression typed_operands typed_before_operands finished digits_of digits_in table type_words geometry_words
an_irrational = refl

-- SELECT b
an_unknown_name : typed_script (asked (column (codes "b") 7) None ∷ []) ≡ refused kind.UnknownName 7
unfolding typed_statement typed_expression typed_operands typed_before_operands finished digits_of digits_in table type_words geometry_words
an_unknown_name = refl

-- CREATE TABLE t (a int, a int)
a_name_twice : typed_script (create_table (word (codes "t") 13) ((word (codes "a") 16, type_word (codes "int") 18) ∷ (word (codes "a") 23, type_word (codes "int") 25) ∷ []) ∷ []) ≡ refused kind.Duplicate 23
unfolding typed_statement typed_expression typed_operands typed_before_operands finished digits_of digits_in table type_words geometry_words
a_name_twice = refl

-- SELECT 1 + 'x'
no_such_sum : typed_script (asked (tree (Sign (codes "+")) 9 (pair (number (codes "1") 7) (string (codes "x") 11))) None ∷ []) ≡ refused kind.NoSuchOperator 9
unfolding typed_statement typed_expression typed_operands typed_before_operands finished digits_of digits_in table type_words geometry_words
no_such_sum = refl

-- SELECT 1 LIMIT 1.5
no_whole_limit : typed_script (asked (number (codes "1") 7) (Some (word (codes "1.5") 15)) ∷ []) ≡ refused kind.BadCount 15
unfolding typed_statement typed_expression typed_operands typed_before_operands finished digits_of digits_in table type_words geometry_words
no_whole_limit = refl

-- SELECT 1/0
over_zero : typed_script (asked (tree (Sign (codes "/")) 8 (pair (number (codes "1") 7) (number (codes "0") 9))) None ∷ []) ≡ refused kind.ZeroDivisor 8
unfolding typed_statement typed_expression typed_operands typed_before_operands finished digits_of digits_in table type_words geometry_words
over_zero = refl

-- SELECT 1 + 'x', b: the first in the order decides
the_first_of_two : typed_script (select (record { distinct = false; items = one (tree (Sign (codes "+")) 9 (pair (number (codes "1") 7) (string (codes "x") 11))) None ∷ one (column (codes "b") 16) None ∷ []; from = []; cond = None; groups = []; keys = []; limit = None }) ∷ []) ≡ refused kind.NoSuchOperator 9
unfolding typed_statement typed_expression typed_operands typed_before_operands finished digits_of digits_in table type_words geometry_words
the_first_of_two = refl

-- SELECT b + 'x': operands before their operator
the_operand_first : typed_script (asked (tree (Sign (codes "+")) 9 (pair (column (codes "b") 7) (string (codes "x") 11))) None ∷ []) ≡ refused kind.UnknownName 7
unfolding typed_statement typed_expression typed_operands typed_before_operands finished digits_of digits_in table type_words geometry_words
the_operand_first = refl

-- SELECT 1.5 AS d: a constant with its type, text, statement and place
one_constant : typed_script (select (record { distinct = false; items = one (number (codes "1.5") 7) (Some (word (codes "d") 14)) ∷ []; from = []; cond = None; groups = []; keys = []; limit = None }) ∷ [])
    ≡ Ok (record { statements = query (record { distinct = false; items = (typed (op.Const 0) sql.Numeric 7 no_args, codes "d") ∷ []; from = []; names = []; joins = []; cond = None; grouped = false; groups = []; aggs = None ∷ []; keys = []; key_items = []; limit = None }) ∷ []; consts = record { ty = sql.Numeric; text = codes "1.5"; statement = 1; place = 7 } ∷ [] })
unfolding typed_statement typed_expression typed_operands typed_before_operands finished digits_of digits_in table type_words geometry_words
one_constant = refl
