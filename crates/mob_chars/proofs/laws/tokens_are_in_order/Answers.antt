use Rattle.mob_chars.proofs.Along.{are_in_order}
use Rattle.mob_chars.proofs.laws.tokens_are_in_order.Goals as goal

pub returns : goal.returns
returns c = record { in_order = are_in_order }
