use Rattle.std.proofs.Common.{rules}
use Rattle.mob_cells.proofs.Ratios.{opposite_last}
use Rattle.mob_cells.proofs.shared.share_root.Goals as goal

pub in_one_ratio-requires-clause-left : goal.in_one_ratio-requires-clause-left
in_one_ratio-requires-clause-left c = opposite_last c.args.f.now c.args.g.now (search rules)

pub in_one_ratio-requires-clause-right : goal.in_one_ratio-requires-clause-right
in_one_ratio-requires-clause-right c = opposite_last c.args.e.now c.args.h.now (search rules)
