use Rattle.std.proofs.Common.{◌≡◌, ◌++◌, drop, map}
use Rattle.mob_clip.specs.Signs.{tally_change}
use Rattle.mob_clip.proofs.membership.tallied.Given as goal

abbrev pub invariant-loop-change : goal.invariant-loop-change
invariant-loop-change l = l.changes.items ++ map tally_change (drop l.change-index l.all) ≡ map tally_change l.all
