use Rattle.std.proofs.Common.{◌≤◌, drop, map, take, Ok}
use Rattle.mob_outside.specs.Told.{KeepsFiles}
use Rattle.mob_load.{specs.Checks.{check_seen}, specs.Fronts.{AsksForAll, OnFiles}, specs.Loads.{HasNarrow, Loads, loaded_of, names_in, nothing_loaded}, proofs.Reading.{ReadsOn}}
use Rattle.mob_load.proofs.script.load_checks.Given as goal

abbrev pub invariant-loop-check : goal.invariant-loop-check
invariant-loop-check g l = record {
  passed : OnFiles (names_in (map check_seen l.checks)) (g.F.Files.files l.fn.files) (λ m. Loads l.epoch m (map check_seen (take l.check-index l.checks)) nothing_loaded (Ok (loaded_of l.loading)));
  unread : ReadsOn l.epoch (map check_seen l.checks) (map check_seen (drop l.check-index l.checks)) (loaded_of l.loading);
  files : KeepsFiles (g.F.Files.files l.fn.files) (g.F.Files.files l.files);
  asked : AsksForAll (names_in (map check_seen (take l.check-index l.checks))) (g.F.Files.asked l.fn.files) (g.F.Files.asked l.files);
  narrow : HasNarrow (loaded_of l.loading).tables;
  later : g.F.Files.faults l.fn.files ≤ g.F.Files.faults l.files;
}
