use Rattle.std.proofs.Common.{rules}
use Rattle.mob_compare.proofs.BothNil.{ends_apart}
use Rattle.mob_compare.proofs.ever.taken.nil_inside.Goals as goal

pub in_one_ratio-requires-clause-left : goal.in_one_ratio-requires-clause-left
in_one_ratio-requires-clause-left c = ends_apart c.args.f.now (search rules) (search rules)

pub in_one_ratio-requires-clause-right : goal.in_one_ratio-requires-clause-right
in_one_ratio-requires-clause-right c = ends_apart c.args.e.now (search rules) (search rules)
