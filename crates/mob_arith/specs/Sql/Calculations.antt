-- The three operations on two numbers, which temporal numbers have too.
use Rattle.std.specs.Prelude.{List}
use Rattle.mob_ratio.specs.Ratio.{Ratio}
use Rattle.mob_frac.specs.Formula.{sum_parts, difference_parts, product_parts}
use Rattle.mob_arith.{specs.Operations.{sum_of, difference_of, product_of}, specs.declared.sql.calculation.Calculation.{Calculation}}
use Rattle.mob_arith.specs.declared.sql.calculation.Calculation.TheVariants.{Sum, Difference, Product}

abbrev pub result_by : Calculation → Ratio → Ratio → Ratio
result_by Sum = sum_of
result_by Difference = difference_of
result_by Product = product_of

abbrev pub parts_by : Calculation → Ratio → Ratio → List Ratio
parts_by Sum = sum_parts
parts_by Difference = difference_parts
parts_by Product = product_parts
