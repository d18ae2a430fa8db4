-- Where the narrow entries of `#` signs and of restrictions by value fit, the instants at which
-- their results change do.
use Rattle.std.{specs.Prelude.{Bool, List, Option, Some, None}, proofs.Common.{refl}}
use Rattle.mob_ratio.specs.Ratio.{Ratio}
use Rattle.mob_ast.{specs.declared.types.Cmp.{Cmp}, specs.declared.types.SqlType.{SqlType}}
use Rattle.mob_slice.{specs.Entries.{IsFirst}, specs.LineComparison.{number_gaps, number_relates, point_gaps, point_relates}, specs.Lines.{line_parts_of, line_value_of, plane_parts_of, plane_value_of}, specs.Operands.{steady_parts, steady_value}, specs.Sides.{OperandOf, pieces}}
use Rattle.mob_slice.{specs.declared.comparison.Gaps.{Gaps}, specs.declared.comparison.Rel.{Rel}, specs.declared.comparison.Rel.TheVariants.{Eq, Ne, Lt, Le, Gt, Ge}}
use Rattle.mob_value.{specs.declared.value.Value.{Value}, specs.declared.value.Value.TheVariants.{Bool as Truth, Number, Text, Point, MovingBool, MovingInt, MovingFrac, MovingText, MovingPoint}, specs.Lines.{line_pair}, specs.Pairs.{entries_on, plane_pair}, specs.Relations.{text_relates, truth_relates}}
use Rattle.mob_cells.proofs.AllFirst.{none_each}
use Rattle.mob_compare.{specs.Compared.{entries_of_gaps}, specs.Sql.Entries.{any_entries, order_entries, sign_entries}, specs.Sql.Wide.{given_changes, wide_any_entries, wide_order_entries, wide_sign_entries}, specs.declared.sql.when.When.TheVariants.{Each}, proofs.AtEach.{changes_narrow}}
use Rattle.mob_restrict.{specs.Sql.Entries.{no_gaps, value_entries}, specs.Sql.Wide.{given_values, wide_value_entries}, specs.Values.{entries_of_value}, proofs.Widely.{values_narrow}}
use Rattle.mob_ast.specs.declared.types.Cmp.TheVariants as cmp
use Rattle.mob_ast.specs.declared.types.SqlType.TheVariants as sql

changes_widen : {C B : Type 0} (value : C → Ratio → Ratio → Ratio → B) (lines : C → Ratio → Ratio → Ratio → List Ratio) (gaps : B → B → Gaps) (relates : B → B → Bool) (pair : Option (OperandOf C B × OperandOf C B)) → IsFirst (entries_on (entries_of_gaps value lines gaps) pair) None → IsFirst (entries_on (given_changes value gaps relates) pair) None
changes_widen value lines gaps relates None h = refl
changes_widen value lines gaps relates (Some p) h = none_each (entries_of_gaps value lines gaps) (given_changes value gaps relates) (changes_narrow value lines gaps relates) (pieces p.0 p.1) h

order_widens : (r : Rel) (met : Option SqlType) (a b : Value) → IsFirst (order_entries Each met a b) None → IsFirst (wide_order_entries r met a b) None
order_widens r (Some sql.TFrac) a b h = changes_widen line_value_of line_parts_of number_gaps (number_relates r) (line_pair a b) h
order_widens r _ a b h = h

any_widens : (r : Rel) (met : Option SqlType) (a b : Value) → IsFirst (any_entries Each met a b) None → IsFirst (wide_any_entries r met a b) None
any_widens r (Some sql.TPoint) a b h = changes_widen plane_value_of plane_parts_of point_gaps (point_relates r) (plane_pair a b) h
any_widens r met a b h = order_widens r met a b h

pub signs_widen : (c : Cmp) (met : Option SqlType) (a b : Value) → IsFirst (sign_entries Each c met a b) None → IsFirst (wide_sign_entries c met a b) None
signs_widen cmp.Eq met a b h = any_widens Eq met a b h
signs_widen cmp.Ne met a b h = any_widens Ne met a b h
signs_widen cmp.Lt met a b h = order_widens Lt met a b h
signs_widen cmp.Le met a b h = order_widens Le met a b h
signs_widen cmp.Gt met a b h = order_widens Gt met a b h
signs_widen cmp.Ge met a b h = order_widens Ge met a b h

pub values_widen : (a b : Value) → IsFirst (value_entries a b) None → IsFirst (wide_value_entries a b) None
values_widen (MovingBool a) (Truth x) h = none_each (entries_of_value steady_value steady_parts no_gaps x) (given_values steady_value no_gaps (truth_relates Eq) x) (values_narrow steady_value steady_parts no_gaps (truth_relates Eq) x) a h
values_widen (MovingInt a) (Number x) h = none_each (entries_of_value steady_value steady_parts no_gaps x) (given_values steady_value no_gaps (number_relates Eq) x) (values_narrow steady_value steady_parts no_gaps (number_relates Eq) x) a h
values_widen (MovingFrac a) (Number x) h = none_each (entries_of_value line_value_of line_parts_of number_gaps x) (given_values line_value_of number_gaps (number_relates Eq) x) (values_narrow line_value_of line_parts_of number_gaps (number_relates Eq) x) a h
values_widen (MovingText a) (Text x) h = none_each (entries_of_value steady_value steady_parts no_gaps x) (given_values steady_value no_gaps (text_relates Eq) x) (values_narrow steady_value steady_parts no_gaps (text_relates Eq) x) a h
values_widen (MovingPoint a) (Point x) h = none_each (entries_of_value plane_value_of plane_parts_of point_gaps x) (given_values plane_value_of point_gaps (point_relates Eq) x) (values_narrow plane_value_of plane_parts_of point_gaps (point_relates Eq) x) a h
values_widen _ _ h = h
