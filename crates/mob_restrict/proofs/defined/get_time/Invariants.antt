use Rattle.std.proofs.Common.{◌≡◌, ◌++◌, drop}
use Rattle.mob_restrict.proofs.SpansOf.{spans_of}
use Rattle.mob_restrict.proofs.defined.get_time.Given as goal

abbrev pub invariant-loop-slice : goal.invariant-loop-slice
invariant-loop-slice g l = l.spans.items ++ spans_of (drop l.slice-index l.slices) ≡ spans_of l.slices
