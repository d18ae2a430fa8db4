use Rattle.std.proofs.Common.{inl, refl}
use Rattle.mob_scalar.proofs.laws.text_value_read_again.Goals as goal

pub returns : goal.returns
returns c = record { again = λ v utf8. record { said = inl refl; holds = utf8 } }
