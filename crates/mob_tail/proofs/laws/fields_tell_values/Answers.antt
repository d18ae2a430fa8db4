use Rattle.mob_tail.{proofs.FieldsTell.{fields_tell}, proofs.GroupValues.{groups_are_of_values}}
use Rattle.mob_tail.proofs.laws.fields_tell_values.Goals as goal

pub returns : goal.returns
returns c = record { tell = fields_tell; groups = groups_are_of_values }
