-- The laws of sums, differences and multiples of courses.
use Rattle.std.specs.Prelude.{◌≡◌, refl}
use Rattle.mob_ratio.specs.Ratio.{Ratio, ◌+ℚ◌, ◌-ℚ◌, ◌*ℚ◌}
use Rattle.mob_slice.{specs.Operands.{steady_value, steady_limit}, specs.declared.steady.Steady.{Steady}}
use Rattle.mob_arith.specs.Operations.{sum_of, difference_of, product_of}

-- An operation is computed from the limits: the course between the results on the limits of c and
-- d, on one span, has at every instant the result on their values. `value`, `start` and `end` are
-- of the course of c, the primed ones of that of d, and `result`, `can_make` and `make` of that of
-- the result.
pub record IsTermwise {A X B Y D Z : Type 0} (value : A → Ratio → Ratio → Ratio → X) (start end : A → X) (value' : B → Ratio → Ratio → Ratio → Y) (start' end' : B → Y) (result : D → Ratio → Ratio → Ratio → Z) (can_make : Z → Z → Type 0) (make : Z → Z → D) (op : X → Y → Z) (c : A) (d : B) (lower upper : Ratio) : Type 0 where
  pub made : can_make (op (start c) (start' d)) (op (end c) (end' d))
  pub same : (t : Ratio) → result (make (op (start c) (start' d)) (op (end c) (end' d))) lower upper t ≡ op (value c lower upper t) (value' d lower upper t)

-- Sums, differences and multiples by a number that changes in steps, on either side, are computed
-- from the limits too. They are the ordinary operations on the numbers of the values.
pub record IsSummed {C B : Type 0} (value : C → Ratio → Ratio → Ratio → B) (start end : C → B) (can_make : B → B → Type 0) (make : B → B → C) (number : B → Ratio) (sum difference : B → B → B) (multiple : B → Ratio → B) : Type 0 where
  pub sums : (c d : C) (lower upper : Ratio) → IsTermwise value start end value start end value can_make make sum c d lower upper
  pub differences : (c d : C) (lower upper : Ratio) → IsTermwise value start end value start end value can_make make difference c d lower upper
  pub multiples : (c : C) (d : Steady Ratio) (lower upper : Ratio) → IsTermwise value start end steady_value steady_limit steady_limit value can_make make multiple c d lower upper
  pub turned : (d : Steady Ratio) (c : C) (lower upper : Ratio) → IsTermwise steady_value steady_limit steady_limit value start end value can_make make (λ k x. multiple x k) d c lower upper
  pub one : (x y : B) → number x ≡ number y → x ≡ y
  pub sum_is : (x y : B) → number (sum x y) ≡ number x +ℚ number y
  pub difference_is : (x y : B) → number (difference x y) ≡ number x -ℚ number y
  pub multiple_is : (x : B) (k : Ratio) → number (multiple x k) ≡ number x *ℚ k

-- steady courses of numbers satisfy them
pub steady_summed : IsSummed {C = Steady Ratio} {B = Ratio} (λ c lower upper t. c.value) (λ c. c.value) (λ c. c.value) (λ a b. a ≡ b) (λ a b. record { value = a }) (λ x. x) sum_of difference_of product_of
steady_summed = record {
  sums = λ c d l u. record { made = refl; same = λ t. refl };
  differences = λ c d l u. record { made = refl; same = λ t. refl };
  multiples = λ c d l u. record { made = refl; same = λ t. refl };
  turned = λ d c l u. record { made = refl; same = λ t. refl };
  one = λ x y h. h;
  sum_is = λ x y. refl;
  difference_is = λ x y. refl;
  multiple_is = λ x k. refl;
}
