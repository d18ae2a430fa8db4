-- Names and types of expressions: the typed tree of a tree, or the first mistake. First comes what
-- does not depend on typed operands, then the operands from left to right, then the operator.
use Rattle.std.specs.Prelude.{◌&&◌, ◌||◌, not, ℕ, List, [], ◌∷◌, ◌++◌, Bool, true, false, Option, Some, None, Result, Ok, codes, length, is_some, option_map, option_and_then, if◌then◌else◌}
use Rattle.std.specs.Str.{bytes_eq}
use Rattle.mob_ast.{specs.declared.types.TypeWord.{TypeWord}, specs.declared.types.SqlType.{SqlType}, specs.declared.refusal.Kind.{Kind}, specs.declared.expression.Node.{Node}}
use Rattle.mob_ast.specs.Trees.{Tree, tree, Trees, none as no_trees, more as more_trees}
use Rattle.mob_operators.{specs.declared.operator.Op.{Op}, specs.declared.operator.Spelling.{Spelling}, specs.Lookup.{same_type, found_in, has_function}, specs.Table.{table, is_irrational}}
use Rattle.mob_operators.specs.Aggregates.{is_aggregate}
use Rattle.mob_typed.{specs.Trees.{TypedTree, typed, none, more, typed_trees, types_of}, specs.declared.typed.ConstText.{ConstText}}
use Rattle.mob_scope.{specs.Answers.{refuse, ◌>>=◌, unless, found}, specs.declared.fault.Mistake.{Mistake}, specs.Scopes.{ScopeParts}, specs.Columns.{column_named}}
use Rattle.mob_expression.{specs.Steps.{TypingTurn, one_more}, specs.Words.{type_named, literal_type, number_type, is_zero}}
use Rattle.mob_ast.specs.declared.types.SqlType.TheVariants as sql
use Rattle.mob_ast.specs.declared.refusal.Kind.TheVariants as kind
use Rattle.mob_ast.specs.declared.expression.Node.TheVariants as node
use Rattle.mob_operators.specs.declared.operator.Op.TheVariants as op
use Rattle.mob_operators.specs.declared.operator.Spelling.TheVariants as form

-- a constant with this type and text, of statement n, takes the next number
abbrev pub next_constant : ℕ → SqlType → List ℕ → ℕ → TypingTurn ℕ
next_constant n ty text p cs = Ok (length cs, cs ++ record { ty = ty; text = text; statement = n; place = p } ∷ [])

-- the typed expression of the next constant
abbrev pub constant : ScopeParts → SqlType → List ℕ → ℕ → TypingTurn TypedTree
constant s ty text p cs = next_constant s.statement ty text p cs >>= λ r. Ok (typed (op.Const r.0) ty p none, r.1)

-- the string and its place, if the only operand is a bare string
abbrev pub string_of : Tree → Option (List ℕ × ℕ)
string_of (tree (node.Str s) p args) = Some (s, p)
string_of (tree _ p args) = None

-- the only one of these trees; None if there is not exactly one
abbrev pub only : Trees → Option Tree
only no_trees = None
only (more_trees t no_trees) = Some t
only (more_trees t (more_trees u us)) = None

abbrev pub lone_string : Trees → Option (List ℕ × ℕ)
lone_string ts = option_and_then string_of (only ts)

-- a cast of a bare string is a constant of that type
abbrev pub cast_of_string : ScopeParts → TypeWord → ℕ → Option (List ℕ × ℕ) → TypingTurn (Option TypedTree)
cast_of_string s w p None cs = Ok (None, cs)
cast_of_string s w p (Some text) cs = found kind.UnknownName w.name.place (type_named w.name.text w.inner) >>= λ ty. constant s ty text.0 text.1 cs >>= λ r. Ok (Some (typed op.Cast ty p (more r.0 none)), r.1)

-- a typed string is a constant of the type that its words name
abbrev pub typed_string : ScopeParts → TypeWord → List ℕ → ℕ → TypingTurn TypedTree
typed_string s w text p cs = found kind.UnknownName w.name.place (literal_type w.name.text w.inner text) >>= λ ty. constant s ty text p cs

abbrev pub settled : TypingTurn TypedTree → TypingTurn (Option TypedTree)
settled step cs = step cs >>= λ r. Ok (Some r.0, r.1)

-- What does not depend on typed operands: constants, columns, casts of a bare string, and functions
-- that are refused because their results may be irrational.
unfoldable pub typed_before_operands : ScopeParts → Node → ℕ → Trees → TypingTurn (Option TypedTree)
typed_before_operands s node.Null p args cs = Ok (Some (typed op.Null sql.Text p none), cs)
typed_before_operands s node.True p args cs = settled (constant s sql.Bool (codes "true") p) cs
typed_before_operands s node.False p args cs = settled (constant s sql.Bool (codes "false") p) cs
typed_before_operands s (node.Number n) p args cs = settled (constant s (number_type n) n p) cs
typed_before_operands s (node.Str t) p args cs = settled (constant s sql.Text t p) cs
typed_before_operands s (node.Literal w t) p args cs = settled (typed_string s w t p) cs
typed_before_operands s (node.Column t c) p args cs = column_named s t c >>= λ f. Ok (Some (typed (op.Column f.from f.column) f.ty p none), cs)
typed_before_operands s (node.Call f) p args cs = unless (is_irrational form.Call f) kind.Irrational p >>= λ _. Ok (None, cs)
typed_before_operands s (node.Sign g) p args cs = Ok (None, cs)
typed_before_operands s (node.Cast w) p args cs = cast_of_string s w p (lone_string args) cs
typed_before_operands s node.Not p args cs = Ok (None, cs)
typed_before_operands s node.And p args cs = Ok (None, cs)
typed_before_operands s node.Or p args cs = Ok (None, cs)
typed_before_operands s node.IsNull p args cs = Ok (None, cs)
typed_before_operands s node.IsNotNull p args cs = Ok (None, cs)

abbrev pub is_signed : List ℕ → Bool
is_signed g = bytes_eq g (codes "-") || bytes_eq g (codes "+")

-- the digits of a number literal under any number of signs
abbrev pub signed_digits : Node → Option (List ℕ) → Option (List ℕ)
signed_digits (node.Number n) inner = Some n
signed_digits (node.Sign g) inner = if is_signed g then inner else None
signed_digits _ inner = None

abbrev pub is_none_left : Trees → Bool
is_none_left no_trees = true
is_none_left (more_trees t ts) = false

unfoldable mutual
  pub digits_of : Tree → Option (List ℕ)
  digits_of (tree n p args) = signed_digits n (digits_in args)

  pub digits_in : Trees → Option (List ℕ)
  digits_in no_trees = None
  digits_in (more_trees t ts) = if is_none_left ts then digits_of t else None

-- the digits of the second of two operands, if it is a number literal
abbrev pub divisor_of : Trees → Option (List ℕ)
divisor_of no_trees = None
divisor_of (more_trees a ts) = option_and_then digits_of (only ts)

-- whether it divides by 0; the divisor is a literal that is 0 or not, or None
abbrev pub divides_by_zero : Op → Option Bool → Bool
divides_by_zero op.Divide (Some zero) = zero
divides_by_zero _ _ = false

abbrev pub are_linear : List SqlType → Bool
are_linear (a ∷ b ∷ []) = same_type a sql.TFrac && same_type b sql.TFrac
are_linear _ = false

abbrev pub missing_sign : List ℕ → List SqlType → Kind
missing_sign name ts = if is_irrational form.Sign name then kind.Irrational else if bytes_eq name (codes "*") && are_linear ts then kind.LinearProduct else kind.NoSuchOperator

-- Why the table has no line for an operator with these types. No line has an aggregate, since an
-- aggregate is a whole item of the select list.
abbrev pub missing : Spelling → List ℕ → List SqlType → Kind
missing form.Word name ts = kind.NoSuchOperator
missing form.Sign name ts = missing_sign name ts
missing form.Call name ts = if has_function table name || is_aggregate name then kind.NoSuchOperator else kind.UnknownName

abbrev pub applied : Spelling → List ℕ → ℕ → Option Bool → List TypedTree → Option (Op × SqlType) → Result TypedTree Mistake
applied f name p divisor ts None = refuse (missing f name (types_of ts)) p
applied f name p divisor ts (Some a) = unless (divides_by_zero a.0 divisor) kind.ZeroDivisor p >>= λ _. Ok (typed a.0 a.1 p (typed_trees ts))

-- an operator for typed operands, by the table; the divisor is a number literal that is 0 or not,
-- or None
abbrev pub operated : Spelling → List ℕ → ℕ → Option Bool → List TypedTree → Result TypedTree Mistake
operated f name p divisor ts = applied f name p divisor ts (found_in table f name (types_of ts) (is_some divisor))

-- a value of the first type can be cast to the second: an int to numeric, a tint to tfrac, and each
-- type to itself
abbrev pub can_cast : SqlType → SqlType → Bool
can_cast a b = same_type a b || (same_type a sql.Int && same_type b sql.Numeric) || (same_type a sql.TInt && same_type b sql.TFrac)

abbrev pub can_cast_all : List SqlType → SqlType → Bool
can_cast_all (a ∷ []) b = can_cast a b
can_cast_all _ b = false

abbrev pub cast : TypeWord → ℕ → List TypedTree → Result TypedTree Mistake
cast w p ts = found kind.UnknownName w.name.place (type_named w.name.text w.inner) >>= λ ty. unless (not (can_cast_all (types_of ts) ty)) kind.NoSuchOperator p >>= λ _. Ok (typed op.Cast ty p (typed_trees ts))

-- the operator of a node, applied to its typed operands
unfoldable pub finished : Node → ℕ → Trees → List TypedTree → Result TypedTree Mistake
finished (node.Call f) p args ts = operated form.Call f p None ts
finished (node.Sign g) p args ts = operated form.Sign g p (option_map is_zero (divisor_of args)) ts
finished (node.Cast w) p args ts = cast w p ts
finished node.Not p args ts = operated form.Word (codes "not") p None ts
finished node.And p args ts = operated form.Word (codes "and") p None ts
finished node.Or p args ts = operated form.Word (codes "or") p None ts
finished node.IsNull p args ts = operated form.Word (codes "is null") p None ts
finished node.IsNotNull p args ts = operated form.Word (codes "is not null") p None ts
finished _ p args ts = refuse kind.NoSuchOperator p

abbrev pub or_later : TypingTurn TypedTree → Option TypedTree → TypingTurn TypedTree
or_later later None cs = later cs
or_later later (Some t) cs = Ok (t, cs)

-- the operator of a node, applied to its typed operands, with the constants after them
abbrev pub on_operands : Node → ℕ → Trees → List TypedTree × List ConstText → Result (TypedTree × List ConstText) Mistake
on_operands n p args r = finished n p args r.0 >>= λ t. Ok (t, r.1)

-- The typed tree of an expression and the constants after it, or the first mistake.
unfoldable mutual
  pub typed_expression : ScopeParts → Tree → TypingTurn TypedTree
  typed_expression s (tree n p args) cs = typed_before_operands s n p args cs >>= λ e. or_later (λ ds. typed_operands s args ds >>= on_operands n p args) e.0 e.1

  -- operands from left to right
  pub typed_operands : ScopeParts → Trees → TypingTurn (List TypedTree)
  typed_operands s no_trees cs = Ok ([], cs)
  typed_operands s (more_trees t us) cs = one_more (typed_expression s t) (typed_operands s us) cs
