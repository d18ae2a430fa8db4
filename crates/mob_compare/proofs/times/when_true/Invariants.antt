use Rattle.std.proofs.Common.{◌≡◌, ◌++◌, drop}
use Rattle.mob_compare.proofs.TrueSpans.{true_spans}
use Rattle.mob_compare.proofs.times.when_true.Given as goal

abbrev pub invariant-loop-slice : goal.invariant-loop-slice
invariant-loop-slice l = l.spans.items ++ true_spans (drop l.slice-index l.slices) ≡ true_spans l.slices
