use Rattle.mob_tail.{specs.Made.{made_in}, proofs.Aggregating.{int_sum_with, frac_sum_with, other_sum}}
use Rattle.mob_tail.proofs.adding.sum_more.Goals as goal

pub returns-in-TInt : goal.returns-in-TInt
returns-in-TInt c = rw c.in-TInt.is (record { with = int_sum_with c.args.before.now c.args.value.now (made_in c.steps_more.result c.steps_more.new.before) c.steps_more.ensures.normal c.steps_more.ensures.union c.steps_more.ensures.fits c.steps_more.ensures.fault })

pub returns-in-TFrac : goal.returns-in-TFrac
returns-in-TFrac c = rw c.in-TFrac.is (record { with = frac_sum_with c.args.before.now c.args.value.now (made_in c.lines_more.result c.lines_more.new.before) c.lines_more.ensures.normal c.lines_more.ensures.union c.lines_more.ensures.fits c.lines_more.ensures.fault })

pub returns-in_default : goal.returns-in_default
returns-in_default c = record { with = other_sum c.args.ty c.args.before.now c.args.value.now c.in_default.not-TInt c.in_default.not-TFrac }
