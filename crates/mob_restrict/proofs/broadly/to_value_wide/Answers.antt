use Rattle.mob_slice.proofs.Orders.{ordered}
use Rattle.mob_restrict.proofs.broadly.to_value_wide.Goals as goal

pub restricted-requires : goal.restricted-requires
restricted-requires g c = record { ordered = rw c.slices.ensures.same (ordered g.C.Course.start_of g.C.Course.end_of g.C.Course.is_continued c.args.a.now c.slices.ensures.normal.chained) }
