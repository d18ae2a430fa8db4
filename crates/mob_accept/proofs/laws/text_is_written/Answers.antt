use Rattle.mob_accept.{proofs.InOrder.{typing_keeps_order}, proofs.Written.{are_written, trees_rise}}
use Rattle.mob_accept.proofs.laws.text_is_written.Goals as goal

pub returns : goal.returns
returns c = record { trees = trees_rise; typing = typing_keeps_order; order = are_written }
