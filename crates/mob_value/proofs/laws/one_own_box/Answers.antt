use Rattle.mob_value.proofs.ValueBoxes.{one_own_box}
use Rattle.mob_value.proofs.laws.one_own_box.Goals as goal

pub returns : goal.returns
returns c = record { one = one_own_box }
