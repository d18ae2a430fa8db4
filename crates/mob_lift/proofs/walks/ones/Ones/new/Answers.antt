use Rattle.mob_slice.proofs.Orders.{ordered, ordered-clear, all_sound}
use Rattle.mob_lift.proofs.WholeSlices.{wholes_clear, wholes_hold}
use Rattle.mob_lift.proofs.walks.ones.Ones.new.Goals as goal

pub returns-clause-clear : goal.returns-clause-clear
returns-clause-clear g c = rw c.slices.ensures.same (wholes_clear c.args.a.now (ordered-clear g.C.Course.start_of g.C.Course.end_of c.args.a.now (ordered _ _ _ _ c.slices.ensures.normal.chained)))

pub returns-clause-hold : goal.returns-clause-hold
returns-clause-hold g c = rw c.slices.ensures.same (wholes_hold g.C.Course.start_of g.C.Course.end_of c.args.a.now (all_sound g.C.Course.start_of g.C.Course.end_of c.args.a.now (ordered _ _ _ _ c.slices.ensures.normal.chained)))
