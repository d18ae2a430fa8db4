use Rattle.std.proofs.Common.{◌≡◌, ◌≤◌, ◌-◌, drop, length}
use Rattle.mob_chars.{specs.Tokens.{tokens_of, tokens_from}, proofs.Walk.{before}}
use Rattle.mob_chars.proofs.lexer.tokens.Given as goal

abbrev pub invariant-loop-at : goal.invariant-loop-at
invariant-loop-at l = record {
  within : l.at ≤ length l.bytes;
  so_far : tokens_of l.bytes ≡ before l.found.items (tokens_from (drop l.at l.bytes) l.at 0);
}

abbrev pub decreases-loop-at : goal.decreases-loop-at
decreases-loop-at l = length l.bytes - l.at
