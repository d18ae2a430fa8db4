use Rattle.mob_slice.specs.Comparison.{all_asked}
use Rattle.mob_compare.proofs.sql.signs.steps_asked.Goals as goal

pub asked-requires-clause-asked : goal.asked-requires-clause-asked
asked-requires-clause-asked g c = all_asked c.args.rel
