-- A row fits or has a part that does not, and the program is exact.
use Rattle.std.{specs.Prelude.{◌∷◌, [], ℕ, List, Some, None, refl}, specs.List.{AllByRecursion}, proofs.lemmas.Option.{none-some}, proofs.Common.{subst, inl, inr}}
use Rattle.mob_list.proofs.Each.{one_of}
use Rattle.mob_ratio.specs.Ratio.{Ratio}
use Rattle.mob_slice.{specs.Entries.{Entry, IsFirst}, specs.Modes.{mode_of}, specs.declared.formula.Formula.{Formula}, specs.declared.mode.Mode.{Mode}, proofs.Firsts.{one_first}}
use Rattle.mob_value.{specs.declared.value.Value.{Value}, specs.declared.value.Value.TheVariants.{MovingPoint}}
use Rattle.mob_simplify.{specs.Thinned.{tests_by_mode}, proofs.OneRuns.{one_runs}}
use Rattle.mob_trips.specs.Program.{IsTripsProgram, IsExactWith}
use Rattle.mob_thin_run.{specs.ThinProgram.{thin_program}, specs.declared.settings.ThinSettings.{ThinSettings}, specs.ThinRows.{OnTests, RowTestsFit, RowTestPasses, PassesFirst}}
use Rattle.mob_thin_run.proofs.OneSetting.{one_setting}

first_apart : (tests : List Entry) (f : Formula) → IsFirst tests None → IsFirst tests (Some f) → ⊥
first_apart tests f h k = none-some f (one_first tests None (Some f) h k)

tests_apart : (mode : Mode) (d : Ratio) (v : Value) (f : Formula) → OnTests mode d v (λ tests. IsFirst tests None) → OnTests mode d v (λ tests. IsFirst tests (Some f)) → ⊥
tests_apart mode d (MovingPoint slices) f h k =
    let e = one_runs d k.0 h.0 slices slices refl k.1 h.1 in
    first_apart (tests_by_mode mode d h.0) f h.2 (subst (λ runs. IsFirst (tests_by_mode mode d runs) (Some f)) e k.2)
tests_apart mode d v f h k = first_apart [] f h k

row_apart : (mode : Mode) (d : Ratio) (row : List Value) (f : Formula) → RowTestsFit mode d row → RowTestPasses mode d row f → ⊥
row_apart mode d [] f h k = k
row_apart mode d (v ∷ row) f h (inl k) = tests_apart mode d v f h.0 k
row_apart mode d (v ∷ row) f h (inr k) = row_apart mode d row f h.1 k.1

fits_apart : (mode : Mode) (d : Ratio) (rows : List (List Value)) (n : ℕ) (f : Formula) → AllByRecursion (RowTestsFit mode d) rows → PassesFirst mode d rows n f → ⊥
fits_apart mode d rows n f h k = row_apart mode d k.here f (one_of (RowTestsFit mode d) k.before k.after k.here (subst (AllByRecursion (RowTestsFit mode d)) k.parts h)) k.passes

pub is_program : IsTripsProgram thin_program
is_program = record {
  one = one_setting;
  fits_stops = λ s rows names f h k. fits_apart (mode_of s.wide) s.within rows k.0 f h k.2;
  fits_limits = λ s rows names h k. k;
}

pub is_exact : (s : ThinSettings) → IsExactWith thin_program s
is_exact s = record {
  written_stops = λ rows text names f h k. fits_apart (mode_of s.wide) s.within rows k.0 f h.0 k.2;
  written_limits = λ rows text names h k. k;
  stopped_limits = λ rows names others f h k. k;
}
