use Rattle.std.{specs.Io.KnownBytes.{Consumes}, proofs.Common.{◌≡◌, ◌≤◌, ◌+◌, ◌-◌, length, true}}
use Rattle.mob_outside.specs.Told.{KeepsFiles, KeepsNames}
use Rattle.mob_outside.proofs.reading.read_through.Given as goal

abbrev pub invariant-loop-chunk : goal.invariant-loop-chunk
invariant-loop-chunk g l = record {
  taken : Consumes (g.T.Taking.left l.fn.from) (g.T.Taking.left l.from) l.bytes.items;
  bound : length l.bytes.items ≤ l.limit + 1;
  ready : g.T.Taking.is_ready l.from ≡ true;
  files : KeepsFiles (g.T.Taking.files l.fn.from) (g.T.Taking.files l.from);
  asked : KeepsNames (g.T.Taking.asked l.fn.from) (g.T.Taking.asked l.from);
  later : g.T.Taking.faults l.fn.from ≤ g.T.Taking.faults l.from;
}

abbrev pub decreases-loop-chunk : goal.decreases-loop-chunk
decreases-loop-chunk g l = l.limit + 1 - length l.bytes.items
