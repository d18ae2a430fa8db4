-- The ending for a fault of a row.
use Rattle.std.specs.Prelude.{ℕ, List, refl}
use Rattle.mob_value.specs.declared.value.Value.{Value}
use Rattle.mob_trips.{specs.Endings.{EndsAt, EndsOn}, specs.declared.ending.TripsEnding.{TripsEnding}, proofs.Whole.{ends_at}}
use Rattle.mob_thin_run.{specs.ThinProgram.{thin_program}, specs.ThinRows.{PassesFirst}, specs.declared.settings.ThinSettings.{ThinSettings}}
use Rattle.mob_list.{specs.Faults.{OnCause}, specs.declared.fault.Fault.{Fault}}
use Rattle.mob_slice.{specs.Modes.{mode_of}, specs.declared.formula.Formula.{Formula}}

pub fault_ends : (settings : ThinSettings) (rows : List (List Value)) (fault : Fault (ℕ × Formula)) (ending : TripsEnding) → EndsAt fault ending → OnCause (λ f. PassesFirst (mode_of settings.wide) settings.within rows f.0 f.1) fault → EndsOn thin_program settings rows ending
fault_ends settings rows = ends_at thin_program settings rows (λ f. PassesFirst (mode_of settings.wide) settings.within rows f.0 f.1) (λ f h. (f.0, refl, h))
