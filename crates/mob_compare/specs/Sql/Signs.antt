-- The signs that compare two values over time: `#` at each instant, `?` at some instant, and `%` at
-- every instant.
use Rattle.std.specs.Prelude.{◌≡◌, Bool, Option, Some}
use Rattle.mob_slice.{specs.LineComparison.{point_relates, number_relates}, specs.Lines.{line_value_of, plane_value_of}, specs.declared.comparison.Rel.{Rel}}
use Rattle.mob_lift.specs.Sometime.{IsEver, IsAlways}
use Rattle.mob_ast.{specs.declared.types.SqlType.{SqlType}, specs.declared.types.Cmp.{Cmp}}
use Rattle.mob_value.{specs.declared.value.Value.{Value}, specs.declared.value.Value.TheVariants.{Null}, specs.Moving.{OverTime}, specs.Relations.{rel_of, text_relates, truth_relates}}
use Rattle.mob_value.{specs.Truths.{known}, specs.Lifted.{IsMovingBool}, specs.Pairs.{OnOperands, OnPair, truth_pair, number_pair, text_pair, plane_pair}, specs.Lines.{line_pair}}
use Rattle.mob_compare.{specs.declared.sql.when.When.{When}, specs.declared.sql.when.When.TheVariants.{Each, Ever, Always}}
use Rattle.mob_ast.specs.declared.types.SqlType.TheVariants as sql
use Rattle.mob_ast.specs.declared.types.Cmp.TheVariants as cmp

-- The result of a sign for a comparison of two operands: a tbool, or whether it holds at some
-- instant, or at every instant, at which both are defined. NULL if there is no such instant.
abbrev pub IsAsked : {X : Type 0} → When → (X → X → Bool) → OverTime X → OverTime X → Value → Type 0
IsAsked Each test left right v = IsMovingBool test left right v
IsAsked Ever test left right v = (answer : Option Bool) × IsEver test left right answer × (v ≡ known answer)
IsAsked Always test left right v = (answer : Option Bool) × IsAlways test left right answer × (v ≡ known answer)

-- a sign on operands with this common type: numbers, or texts
abbrev pub IsOrderTest : When → Rel → Option SqlType → Value → Value → Value → Type 0
IsOrderTest scope r (Some sql.TInt) a b v = OnPair (number_pair a b) (IsAsked scope (number_relates r)) v
IsOrderTest scope r (Some sql.TFrac) a b v = OnOperands line_value_of line_value_of (line_pair a b) (IsAsked scope (number_relates r)) v
IsOrderTest scope r (Some sql.TText) a b v = OnPair (text_pair a b) (IsAsked scope (text_relates r)) v
IsOrderTest scope r _ a b v = v ≡ Null

-- a sign on operands with this common type: truth values, points, numbers or texts
abbrev pub IsAnyTest : When → Rel → Option SqlType → Value → Value → Value → Type 0
IsAnyTest scope r (Some sql.TBool) a b v = OnPair (truth_pair a b) (IsAsked scope (truth_relates r)) v
IsAnyTest scope r (Some sql.TPoint) a b v = OnOperands plane_value_of plane_value_of (plane_pair a b) (IsAsked scope (point_relates r)) v
IsAnyTest scope r met a b v = IsOrderTest scope r met a b v

-- The six comparisons of operands that have a common type, or none. Truth values and points can be
-- equal, but have no order here.
abbrev pub IsSignTest : When → Cmp → Option SqlType → Value → Value → Value → Type 0
IsSignTest scope cmp.Eq met a b v = IsAnyTest scope (rel_of cmp.Eq) met a b v
IsSignTest scope cmp.Ne met a b v = IsAnyTest scope (rel_of cmp.Ne) met a b v
IsSignTest scope c met a b v = IsOrderTest scope (rel_of c) met a b v
