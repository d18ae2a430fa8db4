-- mobtile is a program over a table of trips, and its faults end a run.
use Rattle.std.{specs.Prelude.{List, refl}, proofs.Common.{sym, subst}}
use Rattle.mob_value.specs.declared.value.Value.{Value}
use Rattle.mob_list.{specs.declared.fault.Fault.{Fault}, specs.declared.fault.Fault.TheVariants.{Because, NoMemory}}
use Rattle.mob_pairs.{specs.declared.fault.PairCause.{PairCause}, specs.declared.fault.PairCause.TheVariants.{Passed, Limit}}
use Rattle.mob_trips.{specs.Endings.{EndsOn}, specs.Program.{IsTripsProgram}, specs.Rows.{trips_in}, specs.declared.ending.TripsEnding.{TripsEnding}}
use Rattle.mob_tile_run.{specs.TileAnswers.{TileFails}, specs.TileProgram.{TileEndsAt, tile_program}, specs.declared.settings.TileSettings.{TileSettings}, proofs.OneSetting.{one_setting}}

pub fault_ends : (settings : TileSettings) (rows : List (List Value)) (fault : Fault PairCause) (ending : TripsEnding) → TileEndsAt fault ending → TileFails settings (trips_in rows) fault → EndsOn tile_program settings rows ending
fault_ends settings rows (Because (Passed names formula)) ending e h = subst (λ z. EndsOn tile_program settings rows z) (sym e) h
fault_ends settings rows (Because (Limit row)) ending e h = subst (λ z. EndsOn tile_program settings rows z) (sym e) (row, refl, h)
fault_ends settings rows NoMemory ending e h = subst (λ z. EndsOn tile_program settings rows z) (sym e) tt

pub is_program : IsTripsProgram tile_program
is_program = record {
  one = one_setting;
  fits_stops = λ settings rows names formula fits stops. fits.0 names formula stops;
  fits_limits = λ settings rows names fits limits. fits.1 limits.0 limits.2;
}
