use Rattle.std.proofs.Common.{rules}
use Rattle.mob_plane.proofs.DifferenceSigns.{side_below, side_above, side_same}
use Rattle.mob_plane.proofs.edges.side.Goals as goal

pub returns-then-is_before : goal.returns-then-is_before
returns-then-is_before c = record { sign = side_below _ _ (search rules) }

pub returns-then-is_before-2 : goal.returns-then-is_before-2
returns-then-is_before-2 c = record { sign = side_above _ _ (search rules) (search rules) }

pub returns : goal.returns
returns c = record { sign = side_same _ _ (search rules) (search rules) }
