use Rattle.mob_meets.proofs.Looking.{one_looked_for}
use Rattle.mob_meets.proofs.laws.one_box_to_look_for.Goals as goal

pub returns : goal.returns
returns c = record { one = one_looked_for }
