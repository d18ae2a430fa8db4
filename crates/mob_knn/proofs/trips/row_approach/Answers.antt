use Rattle.mob_slice.specs.Sides.{operand_of}
use Rattle.mob_knn.proofs.Rows.{only_there, only_unfit}
use Rattle.mob_knn.proofs.trips.row_approach.Goals as goal

pub returns-in-Some-clause-value : goal.returns-in-Some-clause-value
returns-in-Some-clause-value c = only_there c.args.trips.now (operand_of c.args.asked.now) c.args.row _ _ c.in-Some.ensures.there c.trip_approach.ensures.value

pub returns-in-Some-clause-unfit : goal.returns-in-Some-clause-unfit
returns-in-Some-clause-unfit c = only_unfit c.args.trips.now (operand_of c.args.asked.now) c.args.row _ _ c.in-Some.ensures.there c.trip_approach.ensures.unfit
