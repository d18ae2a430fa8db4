use Rattle.mob_plane.{proofs.BySigns.{right_turn}, proofs.Crossings.{crossing_on}}
use Rattle.mob_plane.proofs.laws.crossings_by_turns.Goals as goal

pub returns : goal.returns
returns c = record { on_line = crossing_on; right = right_turn }
