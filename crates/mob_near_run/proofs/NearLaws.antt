-- mobnear is a program over a table of trips, and its faults end a run.
use Rattle.std.{specs.Prelude.{◌≡◌, ℕ, List, Option, true, refl}, specs.List.{AllByRecursion}, proofs.Common.{subst}}
use Rattle.mob_value.specs.declared.value.Value.{Value}
use Rattle.mob_list.{specs.Faults.{OnCause}, specs.declared.fault.Fault.{Fault}}
use Rattle.mob_slice.{specs.Modes.{mode_of}, specs.declared.formula.Formula.{Formula}}
use Rattle.mob_trips.{specs.Endings.{EndsAt, EndsOn}, specs.Program.{IsExactWith, IsTripsProgram}, specs.declared.ending.TripsEnding.{TripsEnding}, proofs.Whole.{ends_at}}
use Rattle.mob_list.proofs.Each.{one_of}
use Rattle.mob_frac.specs.Fits.{Fits}
use Rattle.mob_ratio.specs.Ratio.{Ratio}
use Rattle.mob_knn.{specs.Nearest.{Asked, AreNearest, HasApproach}, proofs.OneNearest.{one_first}}
use Rattle.mob_trips.specs.Rows.{Trip, trips_in}
use Rattle.mob_near_run.{specs.NearAnswers.{IsPassedIn, IsRowPassed, IsUnprintable, target_operand}, specs.NearProgram.{near_program}, specs.declared.settings.NearSettings.{NearSettings}, proofs.Targets.{near_one}}

pub fault_ends : (settings : NearSettings) (rows : List (List Value)) (fault : Fault (ℕ × Formula)) (ending : TripsEnding) → EndsAt fault ending → OnCause (λ f. IsRowPassed settings rows f.0 f.1) fault → EndsOn near_program settings rows ending
fault_ends settings rows = ends_at near_program settings rows (λ f. IsRowPassed settings rows f.0 f.1) (λ f h. (f.0, refl, h))

pub is_program : IsTripsProgram near_program
is_program = record {
  one = near_one;
  fits_stops = λ settings rows names formula fits stops. fits stops.0 formula stops.2;
  fits_limits = λ settings rows names fits limits. limits;
}

-- ---- in the wide mode the program is exact
printed_apart : (trips : List (Option Trip)) (asked : Asked) (k row : ℕ) (near : List (ℕ × Ratio)) (f : Formula) → AreNearest trips asked k near → AllByRecursion (λ r. Fits r.1) near → IsUnprintable trips asked k row f → ⊥
printed_apart trips asked k row near f are fit h =
    let e = one_first (HasApproach trips asked) k near h.near are h.are in
    h.first.large (one_of (λ (r : ℕ × Ratio). Fits r.1) h.first.before h.first.after (row, h.first.approach) (subst (AllByRecursion (λ r. Fits r.1)) h.first.parts (subst (AllByRecursion (λ r. Fits r.1)) e fit)))

pub is_exact : (settings : NearSettings) → settings.wide ≡ true → IsExactWith near_program settings
is_exact settings wide = record {
  written_stops = λ rows text names f h k. printed_apart (trips_in rows) (target_operand settings.to) settings.k k.0 h.0 f h.1 h.2 (subst (λ z. IsPassedIn (mode_of z) (trips_in rows) (target_operand settings.to) settings.k k.0 f) wide k.2);
  written_limits = λ rows text names h k. k;
  stopped_limits = λ rows names others f h k. k;
}
