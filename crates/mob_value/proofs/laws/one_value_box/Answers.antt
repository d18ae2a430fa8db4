use Rattle.mob_value.proofs.ValueBoxes.{one_value_box}
use Rattle.mob_value.proofs.laws.one_value_box.Goals as goal

pub returns : goal.returns
returns c = record { one = one_value_box }
