use Rattle.mob_simplify.proofs.Tidied.{breaks_of_it, thin_prints}
use Rattle.mob_simplify.proofs.laws.no_new_breaks.Goals as goal

pub returns : goal.returns
returns c = record { breaks = breaks_of_it; instants = thin_prints }
