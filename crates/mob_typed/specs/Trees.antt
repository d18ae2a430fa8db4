-- Typed trees as plain values, independent of their place in memory. Contracts compare these.
use Rattle.std.specs.Prelude.{ℕ, List, [], ◌∷◌, map}
use Rattle.mob_ast.specs.declared.types.SqlType.{SqlType}
use Rattle.mob_operators.specs.declared.operator.Op.{Op}
use Rattle.mob_typed.{specs.declared.typed.TExpr.{TExpr}, specs.declared.typed.TExpr.TheOpen.{TExpr-F}, specs.declared.typed.TExpr.TheFolds.{fold-TExpr}}

-- a typed expression: its operator, its type, its place and its arguments
mutual
  pub data TypedTree : Type 0 where
    typed : Op → SqlType → ℕ → TypedTrees → TypedTree

  pub data TypedTrees : Type 0 where
    none : TypedTrees
    more : TypedTree → TypedTrees → TypedTrees

abbrev pub typed_trees : List TypedTree → TypedTrees
typed_trees [] = none
typed_trees (t ∷ ts) = more t (typed_trees ts)

abbrev pub type_of : TypedTree → SqlType
type_of (typed op ty p args) = ty

abbrev pub types_of : List TypedTree → List SqlType
types_of ts = map type_of ts

-- the types of arguments
abbrev pub arg_types : TypedTrees → List SqlType
arg_types none = []
arg_types (more t ts) = type_of t ∷ arg_types ts

abbrev pub typed_step : TExpr-F TypedTree → TypedTree
typed_step t = typed t.op t.ty t.place (typed_trees t.args.items)

abbrev pub typed_of : TExpr → TypedTree
typed_of = fold-TExpr TypedTree typed_step
