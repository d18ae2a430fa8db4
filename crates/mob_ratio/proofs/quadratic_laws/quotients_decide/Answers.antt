use Rattle.mob_ratio.{specs.Sign.{nil}, proofs.Order.{before-lt, not-up_to-le}, proofs.Absolute.{inner_test}}
use Rattle.mob_ratio.proofs.quadratic_laws.quotients_decide.Goals as goal

pub returns : goal.returns
returns c = record { within = λ a k d ha hd. inner_test a k d (before-lt nil a ha) (not-up_to-le nil d hd) }
