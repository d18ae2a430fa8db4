-- The text so far and the lines that are still to be written are the file.
use Rattle.std.proofs.Common.{◌≡◌, ◌++◌, string_bytes}
use Rattle.mob_demo.{specs.Demo.{demo_file_text}, proofs.Lines.{lines_from}}
use Rattle.mob_demo.proofs.table.demo_file.Given as goal

abbrev pub invariant-loop-ship : goal.invariant-loop-ship
invariant-loop-ship l = string_bytes l.file ++ lines_from l.ship l.ships ≡ demo_file_text l.ships
