-- Operands without entries have none in each mode.
use Rattle.std.specs.Prelude.{[], None, refl}
use Rattle.mob_slice.{specs.Entries.{IsFirst}, specs.declared.mode.Mode.{Mode}, specs.declared.mode.Mode.TheVariants.{Narrow, Wide}}
use Rattle.mob_compare.{specs.Sql.Entries.{asked_in}, specs.declared.sql.when.When.{When}, specs.declared.sql.when.When.TheVariants.{Each, Ever, Always}}

pub none_asked : (mode : Mode) (scope : When) → IsFirst (asked_in mode scope [] []) None
none_asked Narrow Each = refl
none_asked Wide Each = refl
none_asked Narrow Ever = refl
none_asked Wide Ever = refl
none_asked Narrow Always = refl
none_asked Wide Always = refl
