use Rattle.mob_load.proofs.Written.{looks_in_order}
use Rattle.mob_load.proofs.order_laws.script_is_looked_at_in_order.Goals as goal

pub returns : goal.returns
returns c = record { cut = looks_in_order }
