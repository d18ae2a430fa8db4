use Rattle.mob_demo.proofs.Examples.{first_positions}
use Rattle.mob_demo.proofs.laws.first_ship.Goals as goal

pub returns : goal.returns
returns c = record { positions = first_positions }
