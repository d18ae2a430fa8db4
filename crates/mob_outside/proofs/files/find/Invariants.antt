use Rattle.std.proofs.Common.{◌≡◌, map, drop}
use Rattle.mob_outside.specs.Told.{entry, file_of}
use Rattle.mob_outside.proofs.files.find.Given as goal

abbrev pub invariant-loop-other : goal.invariant-loop-other
invariant-loop-other l = file_of l.name (map entry (drop l.other-index l.files)) ≡ file_of l.name (map entry l.files)
