-- Examples of what typing guarantees and what it excludes.
use Rattle.std.{specs.Prelude.{IfSome, not, option_map, option_and_then}, specs.List.{Contains, IsDistinct, list_all}}
use Rattle.std.proofs.Common.{◌≡◌, ◌+◌, ◌^◌, ◌-◌, refl, sym, subst, arith, ℕ, zero, suc, List, [], ◌∷◌, ◌++◌, Bool, true, false, cond, ◌&&◌, ◌||◌, length, codes, Option, Some, None}
use Rattle.mob_ast.{specs.declared.types.SqlType.{SqlType}, specs.Trees.{tree, none as no_trees, one, StatementParts, select}}
use Rattle.mob_operators.{specs.declared.operator.Spelling.{Spelling}, specs.declared.operator.Op.{Op}, specs.Lookup.{Line, types_fit, meets, given, operator_in, answer_of, found_in}}
use Rattle.mob_operators.specs.Table.{table}
use Rattle.mob_typed.{specs.declared.typed.ConstText.{ConstText}, specs.Trees.{TypedTree, typed, none, more}, specs.Statements.{new_table}}
use Rattle.mob_grammar.specs.Sites.{statement_sites}
use Rattle.mob_clauses.specs.Keys.{limit_value}
use Rattle.mob_typing.{specs.Stands.{IsSiteIn}, specs.WellTyped.{IsNumberLiteral, the_number, behind_minus, HasDivisor, HasOperatorRow, IsOperated, HasDistinctNames}}
use Rattle.mob_typing.proofs.OperatorRows.{line_passes, first_passes}
use Rattle.mob_ast.specs.declared.types.SqlType.TheVariants as sql
use Rattle.mob_ast.specs.declared.expression.Node.TheVariants as node
use Rattle.mob_operators.specs.declared.operator.Spelling.TheVariants as form
use Rattle.mob_operators.specs.declared.operator.Op.TheVariants as op

-- SELECT b: a place that is no site of the one tree, such as that of the blank, is not that of a
-- refusal
the_select : StatementParts
the_select = select (record { distinct = false; items = one (tree (node.Column None (record { text = codes "b"; place = 7 })) 7 no_trees) None ∷ []; from = []; cond = None; groups = []; keys = []; limit = None })

site_of_one : (s : StatementParts) (p : ℕ) → IsSiteIn (s ∷ []) 1 p → Contains (statement_sites s) p
site_of_one s p h = by h.front h.parts h.number
  where
    by : (front : List StatementParts) → s ∷ [] ≡ front ++ h.own ∷ h.behind → length front + 1 ≡ 1 → Contains (statement_sites s) p
    by [] parts number = let same : h.own ≡ s = cc in subst (λ x. Contains (statement_sites x) p) same h.site
    by (x ∷ front) parts number = absurd (omega (arith, number))

blank_is_no_site : IsSiteIn (the_select ∷ []) 1 6 → ⊥
unfolding the_select
blank_is_no_site h = by (site_of_one the_select 6 h)
  where
    by : Contains {X = ℕ} (7 ∷ 7 ∷ []) 6 → ⊥
    by (zero, below, is) = absurd (omega (arith, is))
    by (suc zero, below, is) = absurd (omega (arith, is))
    by (suc (suc k), below, is) = absurd (omega (arith, below))

-- the sum of an int and a tgeompoint has no type
a_sum : TypedTree
a_sum = typed op.Add sql.Bool 9 (more (typed (op.Const 0) sql.Int 7 none) (more (typed (op.Const 1) sql.TPoint 11 none) none))

abbrev not_sum : Op → Bool
not_sum op.Add = false
not_sum _ = true

abbrev two_types : List SqlType
two_types = sql.Int ∷ sql.TPoint ∷ []

abbrev sums_nothing : Line → Bool
sums_nothing l = not (types_fit l.takes two_types) || list_all (λ n. not_sum n.1) l.names

table_sums_nothing : list_all sums_nothing table ≡ true
unfolding table
table_sums_nothing = refl

module _ (f : Spelling) (name : List ℕ) where
  line_sums_nothing : (l : Line) → sums_nothing l ≡ true → IfSome (answer_of l f name two_types false) (λ a. not_sum a.0 ≡ true)
  line_sums_nothing l h = by (types_fit l.takes two_types) refl h
    where
      none_taken : (o : Option Op) → IfSome {T = Op × SqlType} (option_and_then (λ x. cond false (option_map (λ ty. (x, ty)) (given l.gives two_types)) None) o) (λ a. not_sum a.0 ≡ true)
      none_taken None = tt
      none_taken (Some x) = tt

      by : (b : Bool) → types_fit l.takes two_types ≡ b → (not b || list_all (λ n. not_sum n.1) l.names) ≡ true → IfSome (answer_of l f name two_types false) (λ a. not_sum a.0 ≡ true)
      by true fit own = line_passes not_sum l f name two_types false own
      by false fit own =
          subst (λ b. IfSome {T = Op × SqlType} (option_and_then (λ x. cond (b && meets l.bond two_types false) (option_map (λ ty. (x, ty)) (given l.gives two_types)) None) (operator_in l f name)) (λ a. not_sum a.0 ≡ true)) (sym fit)
          (none_taken (operator_in l f name))

  no_sum : (ty : SqlType) → found_in table f name two_types false ≡ Some (op.Add, ty) → ⊥
  no_sum ty is = let none = subst (λ o. IfSome o (λ a. not_sum a.0 ≡ true)) is (first_passes not_sum table f name two_types false sums_nothing line_sums_nothing table_sums_nothing) in absurd (cc)

no_such_sum : (consts : List ConstText) → IsOperated consts a_sum → ⊥
unfolding a_sum
no_such_sum consts h = no_sum h.0.form h.0.name sql.Bool h.0.row

-- 1 / -2
two_numbers : List ConstText
two_numbers = record { ty = sql.Int; text = codes "1"; statement = 1; place = 7 } ∷ record { ty = sql.Int; text = codes "2"; statement = 1; place = 12 } ∷ []

by_minus_two : HasOperatorRow two_numbers op.Divide sql.Numeric (more (typed (op.Const 0) sql.Int 7 none) (more (typed op.Negate sql.Int 11 (more (typed (op.Const 1) sql.Int 12 none) none)) none))
unfolding two_numbers table
by_minus_two = record { form = form.Sign; name = codes "/"; row = refl; divisor = λ division. (codes "2", behind_minus (the_number (refl, refl)), refl) }

-- a column is not a divisor
no_number : (consts : List ConstText) (text : List ℕ) (f k p : ℕ) (ty : SqlType) → IsNumberLiteral consts text (typed (op.Column f k) ty p none) → ⊥
no_number consts text f k p ty h = elim h [ ]

by_no_column : (consts : List ConstText) (f k p : ℕ) (ty : SqlType) (a : TypedTree) → HasDivisor consts (more a (more (typed (op.Column f k) ty p none) none)) → ⊥
by_no_column consts f k p ty a h = no_number consts h.0 f k p ty h.1

-- two tables with one name
one_name_twice : HasDistinctNames (record { statements = new_table 0 (codes "t") [] ∷ new_table 1 (codes "t") [] ∷ []; consts = [] }) → ⊥
unfolding IsDistinct
one_name_twice h = let other = h.tables.0.0 in absurd (cc)

-- the greatest limit
greatest_limit : limit_value (codes "999999999999999999") ≡ Some (10 ^ 18 - 1)
greatest_limit = refl

no_limit : limit_value (codes "1000000000000000000") ≡ None
no_limit = refl
