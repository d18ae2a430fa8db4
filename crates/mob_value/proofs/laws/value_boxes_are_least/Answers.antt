use Rattle.mob_value.proofs.ValueBoxes.{value_box_least}
use Rattle.mob_value.proofs.laws.value_boxes_are_least.Goals as goal

pub returns : goal.returns
returns c = record { least = value_box_least }
