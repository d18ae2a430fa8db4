use Rattle.std.proofs.Common.{length, ◌-◌, ◌≤◌, ◌<◌, ◌≡◌, ℕ, Bool}
use Rattle.mob_numeral.proofs.Runs.{IsSplit}
use Rattle.mob_numeral.proofs.readers.split_while.Given as goal

abbrev pub invariant-loop-i : goal.invariant-loop-i
invariant-loop-i g l = record {
  within : l.i ≤ length l.bytes;
  split : (test : ℕ → Bool) → ((c : ℕ) (passed : Bool) → c < 256 → goal.F-post g l.fn.passes c passed → passed ≡ test c) → IsSplit test l.bytes l.i;
}

abbrev pub decreases-loop-i : goal.decreases-loop-i
decreases-loop-i g l = length l.bytes - l.i
