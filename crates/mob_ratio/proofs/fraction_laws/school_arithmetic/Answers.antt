use Rattle.mob_ratio.proofs.RatioLemmas.{over-add, over-neg, over-mul, over-le, le-over, over-lt, lt-over}
use Rattle.mob_ratio.proofs.fraction_laws.school_arithmetic.Goals as goal

pub returns : goal.returns
returns c = record {
  sum = over-add;
  opposite = over-neg;
  product = over-mul;
  at_most = λ n m d e p q. (le-over n m d e p q, over-le n m d e p q);
  less = λ n m d e p q. (lt-over n m d e p q, over-lt n m d e p q);
}
