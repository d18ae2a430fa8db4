-- The value at a place of a row.
use Rattle.mob_value.{specs.declared.value.Value.{Value}, specs.declared.value.Value.TheVariants.{Null, Number}}
use Rattle.mob_arrange.{specs.declared.found.FoundValue.{FoundValue}, specs.declared.found.FoundValue.TheVariants.{Number as NumberFound, Value as ValueFound, Nothing}}

-- NULL if there is none
abbrev pub found_value : FoundValue → Value
found_value (NumberFound n) = Number n.now
found_value (ValueFound v) = v.now
found_value Nothing = Null
