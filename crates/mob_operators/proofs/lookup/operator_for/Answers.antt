use Rattle.std.proofs.Common.{◌∙◌, ap}
use Rattle.mob_operators.specs.Lookup.{found_in}
use Rattle.mob_operators.proofs.lookup.operator_for.Goals as goal

pub returns : goal.returns
returns c = record { first_row = c.first_of.ensures.first_row ∙ ap (λ ls. found_in ls c.args.form c.args.name.now c.args.types.now c.args.by_literal) c.rows.ensures.all }
