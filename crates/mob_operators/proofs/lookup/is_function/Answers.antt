use Rattle.std.proofs.Common.{◌∙◌, ap}
use Rattle.mob_operators.specs.Lookup.{has_function}
use Rattle.mob_operators.proofs.lookup.is_function.Goals as goal

pub returns : goal.returns
returns c = record { known = c.any_function.ensures.known ∙ ap (λ ls. has_function ls c.args.name.now) c.rows.ensures.all }
