use Rattle.std.{specs.Prelude.{option_map}, proofs.Common.{◌≡◌, ◌+◌, ◌-◌, ◌≤◌, drop, length}}
use Rattle.mob_chars.specs.Scan.{quoted_length}
use Rattle.mob_chars.proofs.scan.quoted_length.Given as goal

abbrev pub invariant-loop-at : goal.invariant-loop-at
invariant-loop-at l = record {
  within : l.at ≤ length l.text;
  so_far : quoted_length l.text ≡ option_map (λ n. l.at + n) (quoted_length (drop l.at l.text));
}

abbrev pub decreases-loop-at : goal.decreases-loop-at
decreases-loop-at l = length l.text - l.at
