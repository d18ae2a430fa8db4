-- The entries of arithmetic.
use Rattle.std.specs.Prelude.{Bool, true, false, cond, List, [], ◌∷◌, Some}
use Rattle.mob_ratio.specs.Ratio.{Ratio}
use Rattle.mob_frac.specs.Formula.{quotient_parts}
use Rattle.mob_slice.{specs.Entries.{Entry}, specs.Lines.{line_value_of, line_parts_of}, specs.Operands.{steady_value, steady_parts}, specs.Sides.{Slices, Base}}
use Rattle.mob_slice.{specs.declared.formula.Formula.TheVariants.{F2}, specs.declared.line.Line.{Line}, specs.declared.slice.Slice.{Slice}}
use Rattle.mob_ast.specs.declared.types.SqlType.{SqlType}
use Rattle.mob_value.{specs.declared.value.Value.{Value}, specs.declared.value.Value.TheVariants.{Number, MovingFrac}, specs.Pairs.{entries_on, number_pair}, specs.Lines.{as_line, line_pair}}
use Rattle.mob_arith.{specs.Termwise.{entries_at_ends}, specs.declared.sql.calculation.Calculation.{Calculation}, specs.declared.sql.calculation.Calculation.TheVariants.{Sum, Difference, Product}}
use Rattle.mob_arith.{specs.Sql.Calculations.{parts_by}, specs.Sql.Factors.{product_pair}, specs.Sql.Arithmetic.{is_nil}}
use Rattle.mob_ast.specs.declared.types.SqlType.TheVariants as sql

-- the entry of an operation on two plain numbers: F2
abbrev pub plain_entries : List Ratio → List Entry
plain_entries parts = record { formula = F2; parts = parts } ∷ []

-- the parts of an operation on two plain numbers
abbrev pub parts_on : (Ratio → Ratio → List Ratio) → Value → Value → List Ratio
parts_on parts (Number a) (Number b) = parts a b
parts_on parts _ _ = []

-- the entries of an operation on linear numbers: at the ends of each piece
abbrev pub line_entries : Calculation → Value → Value → List Entry
line_entries Sum a b = entries_on (entries_at_ends line_value_of line_parts_of line_value_of line_parts_of (parts_by Sum)) (line_pair a b)
line_entries Difference a b = entries_on (entries_at_ends line_value_of line_parts_of line_value_of line_parts_of (parts_by Difference)) (line_pair a b)
line_entries Product a b = entries_on (entries_at_ends line_value_of line_parts_of steady_value steady_parts (parts_by Product)) (product_pair a b)

-- the entries of an operation on numbers with a result of this type
abbrev pub arithmetic_entries : Calculation → SqlType → Value → Value → List Entry
arithmetic_entries by sql.Int a b = plain_entries (parts_on (parts_by by) a b)
arithmetic_entries by sql.Numeric a b = plain_entries (parts_on (parts_by by) a b)
arithmetic_entries by sql.TInt a b = entries_on (entries_at_ends steady_value steady_parts steady_value steady_parts (parts_by by)) (number_pair a b)
arithmetic_entries by sql.TFrac a b = line_entries by a b
arithmetic_entries by _ a b = []

-- a quotient has no part if the divisor is 0
abbrev pub divided_parts : Ratio → Ratio → List Ratio
divided_parts a b = cond (is_nil b) [] (quotient_parts a b)

abbrev pub quotient_entries : Bool → List (Slice Line) → Ratio → List Entry
quotient_entries true a k = []
quotient_entries false a k = entries_on (entries_at_ends line_value_of line_parts_of steady_value steady_parts quotient_parts) (Some (Slices a, Base k))

abbrev pub line_quotient_entries : Value → Value → List Entry
line_quotient_entries (MovingFrac a) (Number k) = quotient_entries (is_nil k) a k
line_quotient_entries _ _ = []

-- the entries of `/` with a result of this type
abbrev pub divided_entries : SqlType → Value → Value → List Entry
divided_entries sql.Numeric a b = plain_entries (parts_on divided_parts a b)
divided_entries sql.TFrac a b = line_quotient_entries (as_line a) b
divided_entries _ a b = []
