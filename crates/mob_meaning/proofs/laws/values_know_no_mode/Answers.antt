use Rattle.mob_meaning.proofs.AnyMode.{values_know_no_mode}
use Rattle.mob_meaning.proofs.laws.values_know_no_mode.Goals as goal

pub returns : goal.returns
returns c = record { same = values_know_no_mode }
