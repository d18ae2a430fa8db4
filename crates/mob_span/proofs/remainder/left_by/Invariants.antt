use Rattle.std.proofs.Common.{◌≡◌, ◌++◌, true, drop}
use Rattle.mob_span.{specs.Span.{has_instant}, specs.Remainders.{remainders_of}}
use Rattle.mob_span.proofs.remainder.left_by.Given as goal

abbrev pub invariant-loop-next : goal.invariant-loop-next
invariant-loop-next l = record {
  some : has_instant l.rest ≡ true;
  made : l.found.items ++ remainders_of l.rest (drop l.next-index l.spans) ≡ remainders_of l.span l.spans;
}
