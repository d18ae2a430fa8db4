use Rattle.std.proofs.Common.{◌≡◌, ◌+◌, ◌≤◌, drop}
use Rattle.mob_literal.specs.Sound.{instant_count}
use Rattle.mob_literal.proofs.temporal.is_long.Given as goal

-- the instants counted so far, and those still to be counted
abbrev pub invariant-loop-sequence : goal.invariant-loop-sequence
invariant-loop-sequence g l = record {
  few : l.count ≤ 100000;
  together : l.count + instant_count (drop l.sequence-index l.sequences) ≡ instant_count l.sequences;
}
