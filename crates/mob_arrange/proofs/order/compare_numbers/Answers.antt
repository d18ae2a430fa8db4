use Rattle.mob_arrange.proofs.WholeNumbers.{compared_once}
use Rattle.mob_arrange.proofs.order.compare_numbers.Goals as goal

pub returns : goal.returns
returns c = record { order = compared_once c.args.a.now c.args.b.now c.compare.result c.compare.ensures.order }
