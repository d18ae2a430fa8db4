-- The entries of the signs that compare two values over time.
use Rattle.std.specs.Prelude.{List, [], Option, Some}
use Rattle.mob_ratio.specs.Ratio.{Ratio}
use Rattle.mob_span.specs.Meets.{PieceOf}
use Rattle.mob_slice.{specs.Entries.{Entry}, specs.LineComparison.{number_gaps, point_gaps}, specs.Lines.{line_value_of, line_parts_of, plane_value_of, plane_parts_of}, specs.Modes.{by_mode}, specs.Sides.{SideOf}}
use Rattle.mob_slice.{specs.declared.comparison.Gaps.{Gaps}, specs.declared.mode.Mode.{Mode}}
use Rattle.mob_cells.specs.Gaps.{entries_of_ends}
use Rattle.mob_ast.{specs.declared.types.SqlType.{SqlType}, specs.declared.types.Cmp.{Cmp}}
use Rattle.mob_value.{specs.declared.value.Value.{Value}, specs.Pairs.{entries_on, plane_pair}, specs.Lines.{line_pair}}
use Rattle.mob_compare.{specs.Compared.{entries_of_gaps}, specs.declared.sql.when.When.{When}, specs.declared.sql.when.When.TheVariants.{Each, Ever, Always}}
use Rattle.mob_ast.specs.declared.types.SqlType.TheVariants as sql
use Rattle.mob_ast.specs.declared.types.Cmp.TheVariants as cmp

-- the entries of a sign on one piece; `#` has those of the crossings too
abbrev pub entries_asked : {C B : Type 0} → When → (C → Ratio → Ratio → Ratio → B) → (C → Ratio → Ratio → Ratio → List Ratio) → (B → B → Gaps) → PieceOf (SideOf C B) (SideOf C B) → List Entry
entries_asked Each value lines gaps = entries_of_gaps value lines gaps
entries_asked Ever value lines gaps = entries_of_ends value lines gaps
entries_asked Always value lines gaps = entries_of_ends value lines gaps

-- the entries of a sign on operands with this common type; steps have none
abbrev pub order_entries : When → Option SqlType → Value → Value → List Entry
order_entries scope (Some sql.TFrac) a b = entries_on (entries_asked scope line_value_of line_parts_of number_gaps) (line_pair a b)
order_entries scope _ a b = []

abbrev pub any_entries : When → Option SqlType → Value → Value → List Entry
any_entries scope (Some sql.TPoint) a b = entries_on (entries_asked scope plane_value_of plane_parts_of point_gaps) (plane_pair a b)
any_entries scope met a b = order_entries scope met a b

abbrev pub sign_entries : When → Cmp → Option SqlType → Value → Value → List Entry
sign_entries scope cmp.Eq met a b = any_entries scope met a b
sign_entries scope cmp.Ne met a b = any_entries scope met a b
sign_entries scope c met a b = order_entries scope met a b

-- The entries of a sign in a mode, of those in the narrow mode and those of `#` in the wide one. In
-- the wide mode the signs with `?` and `%` have none: they give a truth value.
abbrev pub asked_in : Mode → When → List Entry → List Entry → List Entry
asked_in mode Each narrow wide = by_mode mode narrow wide
asked_in mode Ever narrow wide = by_mode mode narrow []
asked_in mode Always narrow wide = by_mode mode narrow []
