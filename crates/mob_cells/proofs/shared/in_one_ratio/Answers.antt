use Rattle.mob_ratio.specs.Ratio.{◌/ℚ◌}
use Rattle.mob_cells.proofs.Ratios.{apart_above, apart_below, together}
use Rattle.mob_cells.proofs.shared.in_one_ratio.Goals as goal

pub returns-in-Less : goal.returns-in-Less
returns-in-Less c = record { same = apart_below (c.args.f.now /ℚ c.args.g.now) (c.args.e.now /ℚ c.args.h.now) c.in_ok-left.left c.in_ok-right.right c.in_ok-left.ensures.value c.in_ok-right.ensures.value (rw c.in-Less.is at c.in_ok-order.ensures.order) }

pub returns-in-Equal : goal.returns-in-Equal
returns-in-Equal c = record { same = together (c.args.f.now /ℚ c.args.g.now) (c.args.e.now /ℚ c.args.h.now) c.in_ok-left.left c.in_ok-right.right c.in_ok-left.ensures.value c.in_ok-right.ensures.value (rw c.in-Equal.is at c.in_ok-order.ensures.order) }

pub returns : goal.returns
returns c = record { same = apart_above (c.args.f.now /ℚ c.args.g.now) (c.args.e.now /ℚ c.args.h.now) c.in_ok-left.left c.in_ok-right.right c.in_ok-left.ensures.value c.in_ok-right.ensures.value (rw c.in-Greater.is at c.in_ok-order.ensures.order) }
