-- The mode in which each operator is decided.
use Rattle.std.specs.Prelude.{List, map}
use Rattle.mob_list.{specs.declared.fault.Fault.{Fault}, specs.declared.fault.Fault.TheVariants.{Because, NoMemory}}
use Rattle.mob_slice.{specs.Entries.{Entry}, specs.Modes.{by_mode}, specs.declared.formula.Formula.{Formula}, specs.declared.formula.Formula.TheVariants.{Given}, specs.declared.mode.Mode.{Mode}, specs.declared.mode.Mode.TheVariants.{Narrow, Wide}}
use Rattle.mob_meaning.specs.declared.terms.Terms.{Terms}

-- the same terms in the narrow mode
abbrev pub narrowed : Terms → Terms
narrowed terms = record terms { mode = Narrow }

-- The families of operators that have entries.
pub data Family : Type 0 where
  -- `+`, `-`, `*` and `/` on plain numbers
  Numbers : Family
  -- the same over time
  NumbersOverTime : Family
  -- signs with `#`
  Signs : Family
  -- signs with `?` and `%`
  Tests : Family
  -- atTime and minusTime
  TimeRestrictions : Family
  -- atValues and minusValues
  ValueRestrictions : Family
  -- valueAtTimestamp
  LookUps : Family
  -- expandSpace
  Expansions : Family
  -- atStbox and minusStbox
  BoxRestrictions : Family
  -- atGeometry and minusGeometry
  PolygonRestrictions : Family
  -- eIntersects
  Intersections : Family
  -- eDwithin and nearestApproachSquared
  Nearness : Family
  -- the aggregates that count and add
  Sums : Family

-- The mode of a family. Those that are named are decided as in the narrow mode also in the wide
-- one: their steps are computed in 62 bits alone.
abbrev pub mode_for : Family → Mode → Mode
mode_for NumbersOverTime mode = Narrow
mode_for TimeRestrictions mode = Narrow
mode_for LookUps mode = Narrow
mode_for BoxRestrictions mode = Narrow
mode_for PolygonRestrictions mode = Narrow
mode_for Intersections mode = Narrow
mode_for Sums mode = Narrow
mode_for _ mode = mode

-- the entries of an operator of this family: those of the narrow mode or those of the wide one
abbrev pub entries_for : Family → Mode → List Entry → List Entry → List Entry
entries_for family mode narrow wide = by_mode (mode_for family mode) narrow wide

-- The entries of an operator whose parts are the numbers that it gives, in both modes. In the wide
-- mode its formula is that of numbers that are given.
abbrev pub given_for : Family → Mode → List Entry → List Entry
given_for family mode entries = by_mode (mode_for family mode) entries (map (λ e. record { formula = Given; parts = e.parts }) entries)

-- the formula that a fault of such an operator names
abbrev pub named_in : Mode → Fault Formula → Fault Formula
named_in Narrow fault = fault
named_in Wide (Because f) = Because Given
named_in Wide NoMemory = NoMemory
