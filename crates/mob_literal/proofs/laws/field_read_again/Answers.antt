use Rattle.mob_literal.proofs.FieldsAgain.{null_again, field_again}
use Rattle.mob_literal.proofs.laws.field_read_again.Goals as goal

pub returns : goal.returns
returns c = record {
  null = null_again;
  there = λ type day v h. (field_again type day v h).there;
  again = λ type day v h. (field_again type day v h).says;
}
