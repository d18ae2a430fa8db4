-- The entries of eDwithin and nearestApproachSquared in the two modes.
use Rattle.std.specs.Prelude.{List, [], Option, Some, None}
use Rattle.mob_ratio.specs.Ratio.{Ratio}
use Rattle.mob_slice.{specs.Entries.{Entry}, specs.Sides.{pieces}, specs.declared.mode.Mode.{Mode}}
use Rattle.mob_value.{specs.declared.value.Value.{Value}, specs.declared.value.Value.TheVariants.{Number}, specs.Pairs.{PlaneOperand, plane_pair}}
use Rattle.mob_near.specs.Wide.{within_entries_in, approach_entries_in}

-- the entries of eDwithin: those on the pieces that the two share
abbrev pub within_on : Mode → Ratio → Option (PlaneOperand × PlaneOperand) → List Entry
within_on mode d None = []
within_on mode d (Some p) = within_entries_in mode d (pieces p.0 p.1)

abbrev pub within_entries : Mode → Value → Value → Value → List Entry
within_entries mode a b (Number d) = within_on mode d (plane_pair a b)
within_entries mode a b _ = []

-- and those of nearestApproachSquared
abbrev pub approach_on : Mode → Option (PlaneOperand × PlaneOperand) → List Entry
approach_on mode None = []
approach_on mode (Some p) = approach_entries_in mode (pieces p.0 p.1)

abbrev pub approach_entries : Mode → Value → Value → List Entry
approach_entries mode a b = approach_on mode (plane_pair a b)
