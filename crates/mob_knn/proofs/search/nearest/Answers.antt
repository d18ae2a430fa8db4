use Rattle.std.proofs.Common.{sym, ◌≤◌, ◌+◌, subst}
use Rattle.mob_slice.specs.Sides.{operand_of}
use Rattle.mob_knn.{specs.Nearest.{count_within, reach_of}, proofs.Known.{asked_once}}
use Rattle.mob_knn.proofs.search.nearest.Goals as goal

pub returns-in-Ok-clause-cost : goal.returns-in-Ok-clause-cost
returns-in-Ok-clause-cost g c q h =
    subst (λ b. c.search-found.new.steps ≤ c.args.steps.now + count_within (reach_of c.args.k c.from_vec.result) b c.args.tree.now.entries) (asked_once (operand_of c.args.asked) c.box_of_asked-area.result q c.box_of_asked-area.ensures.its h)
    (subst (λ rs. c.search-found.new.steps ≤ c.args.steps.now + count_within (reach_of c.args.k rs) c.box_of_asked-area.result c.args.tree.now.entries) (sym c.from_vec.ensures.same) c.in-Ok.ensures.cost)
