use Rattle.std.{specs.Int.{w64, w128}, proofs.Common.{rules, FitsSigned, ap, ◌∙◌}, proofs.lemmas.Int.{to_z-of_z}}
use Rattle.mob_ratio.specs.Ratio.{◌*ℚ◌}
use Rattle.mob_frac.{specs.RoughInside.{rough_value}, proofs.Roughs.{carried, times_positive, product_parts}}
use Rattle.mob_frac.proofs.rough.Rough.times.Goals as goal

pub fitting-requires : goal.fitting-requires
fitting-requires c =
    let h : FitsSigned w128 c.product-2.result = search rules in
    let x : FitsSigned w64 c.self.inside.den = search rules in
    let y : FitsSigned w64 c.other.inside.den = search rules in
    let r = simp to_z-of_z at c.product-2.ensures.value in
    record { positive = simp to_z-of_z (rw r (times_positive c.self.inside.den c.other.inside.den c.self.invariant.den_positive c.other.invariant.den_positive)) }

pub returns : goal.returns
returns c =
    let a : FitsSigned w64 c.self.inside.num = search rules in
    let b : FitsSigned w64 c.other.inside.num = search rules in
    let x : FitsSigned w64 c.self.inside.den = search rules in
    let y : FitsSigned w64 c.other.inside.den = search rules in
    let f : FitsSigned w128 c.product.result = search rules in
    let h : FitsSigned w128 c.product-2.result = search rules in
    let p = simp to_z-of_z at c.product.ensures.value in
    let r = simp to_z-of_z at c.product-2.ensures.value in
    let e = product_parts c.self.inside c.other.inside c.self.invariant c.other.invariant
    ∙ ap (λ z. z *ℚ rough_value c.other.inside) c.self.view_is
    ∙ ap (λ z. c.args.self.now *ℚ z) c.other.view_is in
    record { value = carried c.fitting.result _ _ e (rw (p, r) at (simp to_z-of_z at c.fitting.ensures.fits)) }
