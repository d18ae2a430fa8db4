use Rattle.std.proofs.Common.{◌≡◌, take}
use Rattle.mob_value.proofs.copies.copy_moving.Given as goal

abbrev pub invariant-loop-slice : goal.invariant-loop-slice
invariant-loop-slice g l = l.copies.items ≡ take l.slice-index l.slices
