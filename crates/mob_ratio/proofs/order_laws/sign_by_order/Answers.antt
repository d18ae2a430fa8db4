use Rattle.mob_ratio.{specs.Sign.{nil}, proofs.Order.{lt-before}, proofs.Signs.{sign_above, sign_below, sign_nil}}
use Rattle.mob_ratio.proofs.order_laws.sign_by_order.Goals as goal

pub returns : goal.returns
returns c = record { below = λ q h. sign_below q (lt-before q nil h); at_nil = sign_nil; above = λ q h. sign_above q (lt-before nil q h) }
