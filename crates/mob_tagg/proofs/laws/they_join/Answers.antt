use Rattle.mob_tagg.proofs.Joining.{total_joins, all_joins, some_joins}
use Rattle.mob_tagg.proofs.laws.they_join.Goals as goal

pub returns : goal.returns
returns c = record { sums = total_joins; conjunctions = all_joins; disjunctions = some_joins }
