use Rattle.std.proofs.Common.{◌≡◌, true, drop}
use Rattle.mob_stbox.specs.Boxes.{is_whole}
use Rattle.mob_value.specs.ValueBoxes.{covered}
use Rattle.mob_value.proofs.value_box.cover_all.Given as goal

-- the remaining slices still have to be covered
abbrev pub invariant-loop-slice : goal.invariant-loop-slice
invariant-loop-slice l = (covered l.over (drop l.slice-index l.slices) ≡ covered l.fn.first l.fn.slices) × (is_whole l.over ≡ true)
