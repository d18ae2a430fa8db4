-- The values of a row, in either form.
use Rattle.std.specs.Prelude.{List}
use Rattle.mob_value.specs.declared.value.Value.{Value}
use Rattle.mob_arrange.{specs.declared.rows.RowForm.{RowForm}, specs.declared.rows.RowForm.TheVariants.{Numbers, Listed}}

abbrev pub form_values : RowForm → List Value
form_values (Numbers values) = values
form_values (Listed values) = values
