use Rattle.mob_plane.proofs.BySigns.{on_is, right_is, inside_signs, inside-same}
use Rattle.mob_plane.proofs.laws.membership_by_signs.Goals as goal

pub returns : goal.returns
returns c = record { on = on_is; right = right_is; within = inside_signs; same = inside-same }
