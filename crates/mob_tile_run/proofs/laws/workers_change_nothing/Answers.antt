use Rattle.mob_tile_run.proofs.OneAnswer.{one_text, one_fault, text_apart}
use Rattle.mob_tile_run.proofs.laws.workers_change_nothing.Goals as goal

pub returns : goal.returns
returns c = record { text = one_text; fault = one_fault; apart = text_apart }
