use Rattle.std.proofs.Common.{sym}
use Rattle.mob_rtree_nodes.specs.Reach.{is_root}
use Rattle.mob_base_rows.proofs.walked.children_of_root.Goals as goal

pub children-requires : goal.children-requires
children-requires c = record { reached = (0, is_root (sym c.in-Some.ensures.is)) }
