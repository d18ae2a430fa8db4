use Rattle.mob_tail.proofs.CountLaw.{no_count_passes}
use Rattle.mob_tail.proofs.laws.no_count_passes.Goals as goal

pub returns : goal.returns
returns c = record { never = no_count_passes }
