use Rattle.std.proofs.Common.{rules}
use Rattle.mob_stbox.proofs.BoxLaws.{none_where, some_where}
use Rattle.mob_stbox.proofs.stbox.StBox.new.Goals as goal

pub returns-then-not-is_area-clause-none : goal.returns-then-not-is_area-clause-none
returns-then-not-is_area-clause-none c = none_where c.args.space c.args.time c.in-Some.area c.in-Some.is (search rules)

pub returns-else-not-is_area-clause-none : goal.returns-else-not-is_area-clause-none
returns-else-not-is_area-clause-none c = some_where c.args.space c.args.time c.in-Some.area c.in-Some.is (search rules)
