use Rattle.mob_stbox.proofs.Moves.{moved_outward, moved_inward}
use Rattle.mob_stbox.proofs.laws.expansions.Goals as goal

pub returns : goal.returns
returns c = record { outward = moved_outward; inward = moved_inward }
