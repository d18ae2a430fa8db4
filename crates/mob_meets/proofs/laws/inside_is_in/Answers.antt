use Rattle.mob_meets.proofs.Inside.{inside_in}
use Rattle.mob_meets.proofs.laws.inside_is_in.Goals as goal

pub returns : goal.returns
returns c = record { area = inside_in }
