use Rattle.std.proofs.Common.{rules}
use Rattle.mob_stbox.{specs.Boxes.{same_box}, specs.SameBoxes.{same_box_exact_as}}
use Rattle.mob_stbox.proofs.stbox.StBox.same.Goals as goal

pub returns-then-is_same_space-clause-exact : goal.returns-then-is_same_space-clause-exact
unfolding same_box
returns-then-is_same_space-clause-exact c = same_box_exact_as _ _ _ (search rules)

pub returns-else-is_same_space-clause-exact : goal.returns-else-is_same_space-clause-exact
unfolding same_box
returns-else-is_same_space-clause-exact c = same_box_exact_as _ _ _ (search rules)
