-- Lines satisfy the laws of sums, differences and multiples: each result is a line between the
-- results at the two ends.
use Rattle.std.{specs.Prelude.{refl, ⊤}, proofs.Common.{sym}}
use Rattle.mob_ratio.{specs.Ratio.{Ratio, inverse}, proofs.LineAt.{line_at-sum, line_at-scale}, proofs.Signs.{line_at-diff}}
use Rattle.mob_slice.{specs.Lines.{line_value_of}, specs.Operands.{steady_value, steady_limit}, specs.declared.line.Line.{Line}, specs.declared.steady.Steady.{Steady}}
use Rattle.mob_arith.{specs.Operations.{sum_of, difference_of, product_of, quotient_of}, specs.Summed.{IsSummed, IsTermwise}}

pub line_summed : IsSummed {C = Line} {B = Ratio} line_value_of (λ c. c.from) (λ c. c.to) (λ a b. ⊤) (λ a b. record { from = a; to = b }) (λ x. x) sum_of difference_of product_of
line_summed = record {
  sums = λ c d l u. record { made = tt; same = λ t. line_at-sum c.from c.to d.from d.to l u t };
  differences = λ c d l u. record { made = tt; same = λ t. sym (line_at-diff c.from c.to d.from d.to l u t) };
  multiples = λ c d l u. record { made = tt; same = λ t. line_at-scale c.from c.to d.value l u t };
  turned = λ d c l u. record { made = tt; same = λ t. line_at-scale c.from c.to d.value l u t };
  one = λ x y h. h;
  sum_is = λ x y. refl;
  difference_is = λ x y. refl;
  multiple_is = λ x k. refl;
}

-- and so is the quotient by a number that changes in steps
pub line_divided : (c : Line) (d : Steady Ratio) (lower upper : Ratio) → IsTermwise line_value_of (λ c. c.from) (λ c. c.to) steady_value steady_limit steady_limit line_value_of (λ a b. ⊤) (λ a b. record { from = a; to = b }) quotient_of c d lower upper
line_divided c d l u = record { made = tt; same = λ t. line_at-scale c.from c.to (inverse d.value) l u t }
