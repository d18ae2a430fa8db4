-- The value of an entry of a row.
use Rattle.mob_value.specs.declared.value.Value.{Value}
use Rattle.mob_arrange.{specs.declared.row_values.RowValue.{RowValue}, specs.declared.row_values.RowValue.TheVariants.{Stored, Made}}

abbrev pub row_value : RowValue → Value
row_value (Stored r) = r.now
row_value (Made v) = v
