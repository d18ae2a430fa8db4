-- The entries of arithmetic in the wide mode: on numbers the number that is given, and over time
-- the values at the ends of each piece.
use Rattle.std.{specs.Prelude.{Bool, true, false, List, [], Some}}
use Rattle.mob_ratio.specs.Ratio.{Ratio}
use Rattle.mob_frac.specs.Formula.{quotient_parts}
use Rattle.mob_span.specs.Meets.{PieceOf}
use Rattle.mob_slice.{specs.Entries.{Entry}, specs.Lines.{line_value_of}, specs.Modes.{entry_given}, specs.Operands.{steady_value}, specs.Sides.{SideOf, Slices, Base, side_at, at_ends}, specs.declared.line.Line.{Line}, specs.declared.slice.Slice.{Slice}}
use Rattle.mob_ast.specs.declared.types.SqlType.{SqlType}
use Rattle.mob_value.{specs.declared.value.Value.{Value}, specs.declared.value.Value.TheVariants.{Number, MovingFrac}, specs.Pairs.{entries_on, number_pair}, specs.Lines.{as_line, line_pair}}
use Rattle.mob_arith.{specs.declared.sql.calculation.Calculation.{Calculation}, specs.declared.sql.calculation.Calculation.TheVariants.{Sum, Difference, Product}}
use Rattle.mob_arith.{specs.Sql.Calculations.{parts_by}, specs.Sql.Factors.{product_pair}, specs.Sql.Arithmetic.{is_nil}, specs.Sql.Entries.{divided_parts, parts_on}}
use Rattle.mob_ast.specs.declared.types.SqlType.TheVariants as sql

-- an operation on one piece: its results at both ends, which are limits where an end is excluded
abbrev pub given_at_ends : {A X B Y : Type 0} → (A → Ratio → Ratio → Ratio → X) → (B → Ratio → Ratio → Ratio → Y) → (X → Y → List Ratio) → PieceOf (SideOf A X) (SideOf B Y) → List Entry
given_at_ends value value' parts p = entry_given (at_ends (λ t. parts (side_at value p.left t) (side_at value' p.right t)) p.span)

-- on linear numbers
abbrev pub wide_line_entries : Calculation → Value → Value → List Entry
wide_line_entries Sum a b = entries_on (given_at_ends line_value_of line_value_of (parts_by Sum)) (line_pair a b)
wide_line_entries Difference a b = entries_on (given_at_ends line_value_of line_value_of (parts_by Difference)) (line_pair a b)
wide_line_entries Product a b = entries_on (given_at_ends line_value_of steady_value (parts_by Product)) (product_pair a b)

-- on numbers with a result of this type
abbrev pub wide_arithmetic_entries : Calculation → SqlType → Value → Value → List Entry
wide_arithmetic_entries by sql.Int a b = entry_given (parts_on (parts_by by) a b)
wide_arithmetic_entries by sql.Numeric a b = entry_given (parts_on (parts_by by) a b)
wide_arithmetic_entries by sql.TInt a b = entries_on (given_at_ends steady_value steady_value (parts_by by)) (number_pair a b)
wide_arithmetic_entries by sql.TFrac a b = wide_line_entries by a b
wide_arithmetic_entries by _ a b = []

-- a quotient gives no number if the divisor is 0
abbrev pub wide_quotient_entries : Bool → List (Slice Line) → Ratio → List Entry
wide_quotient_entries true a k = []
wide_quotient_entries false a k = entries_on (given_at_ends line_value_of steady_value quotient_parts) (Some (Slices a, Base k))

abbrev pub wide_line_quotient : Value → Value → List Entry
wide_line_quotient (MovingFrac a) (Number k) = wide_quotient_entries (is_nil k) a k
wide_line_quotient _ _ = []

-- `/` with a result of this type
abbrev pub wide_divided_entries : SqlType → Value → Value → List Entry
wide_divided_entries sql.Numeric a b = entry_given (parts_on divided_parts a b)
wide_divided_entries sql.TFrac a b = wide_line_quotient (as_line a) b
wide_divided_entries _ a b = []
