use Rattle.std.proofs.Common.{arith}
use Rattle.mob_value.proofs.Cutting.{starts_before_end}
use Rattle.mob_value.proofs.rows.bounds_of.Goals as goal

pub returns-clause-order : goal.returns-clause-order
returns-clause-order c =
    let both = starts_before_end 0 c.args.ends.now c.args.most c.args.number 0 c.requires.cuts c.requires.there in
    omega (arith, both.0, c.start_of.ensures.start)

pub returns-clause-within : goal.returns-clause-within
returns-clause-within c = (starts_before_end 0 c.args.ends.now c.args.most c.args.number 0 c.requires.cuts c.requires.there).1
