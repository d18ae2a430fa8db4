use Rattle.mob_load.proofs.Reading.{loaded_is_read}
use Rattle.mob_load.proofs.laws.loaded_is_read.Goals as goal

pub returns : goal.returns
returns c = record { read = loaded_is_read }
