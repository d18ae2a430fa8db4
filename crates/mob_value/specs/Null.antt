-- NULL, the value of SQL for a missing value.
use Rattle.std.specs.Prelude.{Option, Some, None}
use Rattle.mob_value.specs.declared.value.Value.{Value}
use Rattle.mob_value.specs.declared.value.Value.TheVariants as value

-- the value, or NULL if there is none
abbrev pub value_or_null : Option Value → Value
value_or_null None = value.Null
value_or_null (Some v) = v
