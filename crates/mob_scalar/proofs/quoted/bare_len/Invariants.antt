use Rattle.std.proofs.Common.{◌≡◌, length, take, ◌-◌, ◌≤◌}
use Rattle.mob_scalar.specs.Quoted.{is_plain, trimmed}
use Rattle.mob_numeral.proofs.Runs.{IsSplit}
use Rattle.mob_scalar.proofs.quoted.bare_len.Given as goal

abbrev pub invariant-loop-i : goal.invariant-loop-i
invariant-loop-i l = record {
  within : l.i ≤ length l.bytes;
  split : IsSplit is_plain l.bytes l.i;
  ends : length (trimmed (take l.i l.bytes)).0 ≡ l.end;
}

abbrev pub decreases-loop-i : goal.decreases-loop-i
decreases-loop-i l = length l.bytes - l.i
