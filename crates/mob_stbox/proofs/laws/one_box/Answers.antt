use Rattle.mob_stbox.proofs.BoxLaws.{one_box}
use Rattle.mob_stbox.proofs.laws.one_box.Goals as goal

pub returns : goal.returns
returns c = record { one = one_box }
