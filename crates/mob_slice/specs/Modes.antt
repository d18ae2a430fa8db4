-- The entries of an operator in the two modes. In the narrow mode each step of each formula is a
-- part. In the wide mode, that of `--wide`, the parts are the numbers that the operator gives on
-- one piece, whatever the steps on the way to them.
use Rattle.std.specs.Prelude.{Bool, true, false, List, [], ◌∷◌}
use Rattle.mob_ratio.specs.Ratio.{Ratio}
use Rattle.mob_slice.{specs.Entries.{Entry}, specs.declared.formula.Formula.TheVariants.{Given}, specs.declared.mode.Mode.{Mode}, specs.declared.mode.Mode.TheVariants.{Narrow, Wide}}

-- `--wide` asks for the wide mode
abbrev pub mode_of : Bool → Mode
mode_of false = Narrow
mode_of true = Wide

-- the first in the narrow mode, the second in the wide one
abbrev pub by_mode : {A : Type 0} → Mode → A → A → A
by_mode Narrow narrow wide = narrow
by_mode Wide narrow wide = wide

-- the single entry of numbers that are given
abbrev pub entry_given : List Ratio → List Entry
entry_given numbers = record { formula = Given; parts = numbers } ∷ []

-- the entries of a formula in the narrow mode, the numbers that are given in the wide one
abbrev pub entries_by : Mode → List Entry → List Ratio → List Entry
entries_by mode entries numbers = by_mode mode entries (entry_given numbers)
