use Rattle.std.proofs.Common.{refl}
use Rattle.mob_operators.specs.Table.{table}
use Rattle.mob_operators.proofs.lookup.rows.Goals as goal

-- checked over the whole table
pub returns : goal.returns
unfolding table
returns c = record { all = refl }
