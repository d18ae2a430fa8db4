use Rattle.std.{specs.Int.{w64, w128}, proofs.Common.{rules, ◌+ℤ◌, FitsSigned, arith, ap, subst, ◌∙◌}, proofs.lemmas.Int.{to_z-of_z, ints}}
use Rattle.mob_ratio.specs.Ratio.{◌+ℚ◌}
use Rattle.mob_frac.{specs.Fits.{IsExact}, proofs.Sharing.{den_positive}, proofs.Roughs.{times_positive, sum_parts}}
use Rattle.mob_frac.proofs.rough.Rough.added_to.Goals as goal

pub reduced-requires : goal.reduced-requires
reduced-requires c =
    let h : FitsSigned w128 c.product-3.result = search rules in
    let x : FitsSigned w64 c.den-2.result = search rules in
    let y : FitsSigned w64 c.self.inside.den = search rules in
    let r = simp to_z-of_z at c.product-3.ensures.value in
    record { positive = simp to_z-of_z (rw r (times_positive c.den-2.result c.self.inside.den (den_positive c.args.first.now c.den-2.result c.den-2.ensures.value) c.self.invariant.den_positive)) }

pub returns : goal.returns
returns c =
    let a : FitsSigned w64 c.num.result = search rules in
    let b : FitsSigned w64 c.self.inside.den = search rules in
    let d : FitsSigned w64 c.self.inside.num = search rules in
    let e : FitsSigned w64 c.den.result = search rules in
    let x : FitsSigned w64 c.den-2.result = search rules in
    let f : FitsSigned w128 c.product.result = search rules in
    let g : FitsSigned w128 c.product-2.result = search rules in
    let h : FitsSigned w128 c.product-3.result = search rules in
    let i : FitsSigned w128 (c.product.result +ℤ c.product-2.result) = omega (arith, ints, c.product.ensures.bound, c.product-2.ensures.bound) in
    let p = rw c.num.ensures.value at (simp to_z-of_z at c.product.ensures.value) in
    let q = rw c.den.ensures.value at (simp to_z-of_z at c.product-2.ensures.value) in
    let r = rw c.den-2.ensures.value at (simp to_z-of_z at c.product-3.ensures.value) in
    record { exact = subst (λ z. IsExact z c.reduced.result) (sum_parts c.args.first.now c.self.inside c.self.invariant ∙ ap (λ z. c.args.first.now +ℚ z) c.self.view_is) (rw (p, q, r) at (simp to_z-of_z at c.reduced.ensures.exact)) }
