use Rattle.mob_ratio.{specs.Sign.{nil}, specs.Quadratic.{at_one}, proofs.Order.{not-up_to-le}, proofs.QuadraticTests.{decided, bounded}}
use Rattle.mob_ratio.proofs.quadratic_laws.quadratic_tests_decide.Goals as goal

pub returns : goal.returns
returns c = record {
  reached = λ a b e d with_nil with_one ha hc hl. decided a b e d with_nil with_one (not-up_to-le nil a ha) (not-up_to-le nil e hc) (not-up_to-le nil (at_one a b e) hl);
  bounded = λ a b e with_nil with_one ha hc hl. bounded a b e with_nil with_one (not-up_to-le nil a ha) (not-up_to-le nil e hc) (not-up_to-le nil (at_one a b e) hl);
}
