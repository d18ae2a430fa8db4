use Rattle.std.{specs.Int.{w64, w128}, proofs.Common.{◌≡◌, rules, ℤ, pos, ◌+ℤ◌, ◌<ℤ◌, nat_abs, to_z, of_z, FitsSigned, arith, ap₂}, proofs.lemmas.Int.{to_z-of_z, ints}}
use Rattle.mob_ratio.{specs.Gcd.{gcd}, specs.Ratio.{Ratio, over, ◌+ℚ◌}}
use Rattle.mob_frac.{specs.Fits.{IsLowest}, proofs.Reductions.{common_positive}, proofs.Sharing.{den_positive, shared_positive, summed_parts}}
use Rattle.mob_frac.proofs.fraction.unlike_sum.Goals as goal

-- the greatest common divisor of the denominators
shared_of : (a b : Ratio) (d e s : ℤ) → FitsSigned w64 d → FitsSigned w64 e → d ≡ pos a.den → e ≡ pos b.den → s ≡ pos (gcd (nat_abs (to_z w64 (of_z w64 d))) (nat_abs (to_z w64 (of_z w64 e)))) → s ≡ pos (gcd a.den b.den)
shared_of a b d e s f g ed ee es = rw (ed, ee) at (simp to_z-of_z at es)

pub divisor-shared-requires : goal.divisor-shared-requires
divisor-shared-requires c =
    let g : FitsSigned w64 c.den-2.result = search rules in
    record { positive = simp to_z-of_z (den_positive c.args.b.now c.den-2.result c.den-2.ensures.value) }

pub part-left-requires : goal.part-left-requires
part-left-requires c =
    let h : FitsSigned w64 c.divisor-shared.result = search rules in
    record { positive = simp to_z-of_z (shared_positive c.args.a.now c.args.b.now c.divisor-shared.result (shared_of c.args.a.now c.args.b.now c.den.result c.den-2.result c.divisor-shared.result (search rules) (search rules) c.den.ensures.value c.den-2.ensures.value c.divisor-shared.ensures.value)) }

pub part-right-requires : goal.part-right-requires
part-right-requires c =
    let h : FitsSigned w64 c.divisor-shared.result = search rules in
    record { positive = simp to_z-of_z (shared_positive c.args.a.now c.args.b.now c.divisor-shared.result (shared_of c.args.a.now c.args.b.now c.den.result c.den-2.result c.divisor-shared.result (search rules) (search rules) c.den.ensures.value c.den-2.ensures.value c.divisor-shared.ensures.value)) }

pub overflow_add-top : goal.overflow_add-top
overflow_add-top c =
    let f : FitsSigned w128 c.product.result = search rules in
    let g : FitsSigned w128 c.product-2.result = search rules in
    simp to_z-of_z (omega (arith, ints, c.product.ensures.bound, c.product-2.ensures.bound))

pub wide_divisor-again-requires : goal.wide_divisor-again-requires
wide_divisor-again-requires c =
    let h : FitsSigned w64 c.divisor-shared.result = search rules in
    record { positive = simp to_z-of_z (shared_positive c.args.a.now c.args.b.now c.divisor-shared.result (shared_of c.args.a.now c.args.b.now c.den.result c.den-2.result c.divisor-shared.result (search rules) (search rules) c.den.ensures.value c.den-2.ensures.value c.divisor-shared.ensures.value)) }

-- the divisor of the numerator and the shared divisor is above 0
again_positive : (c : goal.After-wide_divisor-again) → pos 0 <ℤ c.wide_divisor-again.result
again_positive c =
    let h : FitsSigned w64 c.divisor-shared.result = search rules in
    let n : FitsSigned w128 c.product.result = search rules in
    let p : FitsSigned w128 c.product-2.result = search rules in
    let top : FitsSigned w128 (c.product.result +ℤ c.product-2.result) = omega (arith, ints, c.product.ensures.bound, c.product-2.ensures.bound) in
    let shared = shared_of c.args.a.now c.args.b.now c.den.result c.den-2.result c.divisor-shared.result (search rules) (search rules) c.den.ensures.value c.den-2.ensures.value c.divisor-shared.ensures.value in
    common_positive (c.product.result +ℤ c.product-2.result) c.divisor-shared.result c.wide_divisor-again.result (shared_positive c.args.a.now c.args.b.now c.divisor-shared.result shared) (simp to_z-of_z at c.wide_divisor-again.ensures.value)

pub wide_part-requires : goal.wide_part-requires
wide_part-requires c =
    let q : FitsSigned w64 c.wide_divisor-again.result = search rules in
    record { positive = simp to_z-of_z (again_positive c) }

pub part-requires : goal.part-requires
part-requires c =
    let q : FitsSigned w64 c.wide_divisor-again.result = search rules in
    record { positive = simp to_z-of_z (again_positive c.before.before) }

-- the numerator and the denominator that the code computes
made : (c : goal.After-product-3) → IsLowest c.wide_part.result c.product-3.result × (over c.wide_part.result (nat_abs c.product-3.result) ≡ c.args.a.now +ℚ c.args.b.now)
made c =
    let f : FitsSigned w64 c.den.result = search rules in
    let g : FitsSigned w64 c.den-2.result = search rules in
    let h : FitsSigned w64 c.divisor-shared.result = search rules in
    let i : FitsSigned w64 c.den-3.result = search rules in
    let j : FitsSigned w64 c.part-left.result = search rules in
    let k : FitsSigned w64 c.den-4.result = search rules in
    let l : FitsSigned w64 c.part-right.result = search rules in
    let m : FitsSigned w64 c.num.result = search rules in
    let n : FitsSigned w128 c.product.result = search rules in
    let o : FitsSigned w64 c.num-2.result = search rules in
    let p : FitsSigned w128 c.product-2.result = search rules in
    let q : FitsSigned w64 c.wide_divisor-again.result = search rules in
    let s : FitsSigned w64 c.den-5.result = search rules in
    let t : FitsSigned w64 c.part.result = search rules in
    let top : FitsSigned w128 (c.product.result +ℤ c.product-2.result) = omega (arith, ints, c.product.ensures.bound, c.product-2.ensures.bound) in
    let shared = rw (c.den.ensures.value, c.den-2.ensures.value) at (simp to_z-of_z at c.divisor-shared.ensures.value) in
    let again = simp to_z-of_z at c.wide_divisor-again.ensures.value in
    let left = rw c.den-3.ensures.value at (simp to_z-of_z at c.part-left.ensures.value) in
    let right = rw c.den-4.ensures.value at (simp to_z-of_z at c.part-right.ensures.value) in
    let first = rw c.num.ensures.value at (simp to_z-of_z at c.product.ensures.value) in
    let second = rw c.num-2.ensures.value at (simp to_z-of_z at c.product-2.ensures.value) in
    let under = simp to_z-of_z at c.wide_part.ensures.value in
    let rest = rw c.den-5.ensures.value at (simp to_z-of_z at c.part.ensures.value) in
    let bottom = rw rest at (simp to_z-of_z at c.product-3.ensures.value) in
    summed_parts c.args.a.now c.args.b.now c.divisor-shared.result c.part-left.result c.part-right.result (c.product.result +ℤ c.product-2.result) c.wide_divisor-again.result c.wide_part.result c.product-3.result shared left right (ap₂ (λ (y z : ℤ). y +ℤ z) first second) again under bottom

pub from_parts-requires : goal.from_parts-requires
from_parts-requires c =
    let r : FitsSigned w128 c.wide_part.result = search rules in
    let u : FitsSigned w128 c.product-3.result = search rules in
    record { lowest = simp to_z-of_z (made c).0 }

pub returns : goal.returns
returns c =
    let r : FitsSigned w128 c.wide_part.result = search rules in
    let u : FitsSigned w128 c.product-3.result = search rules in
    record { exact = rw (made c.before).1 at (simp to_z-of_z at c.from_parts.ensures.exact) }
