use Rattle.std.{specs.Int.{w64}, proofs.Common.{rules, pos, ◌<ℤ◌, ◌≤ℤ◌, neg_ℤ, FitsSigned, arith, sym, ◌∙◌}, proofs.lemmas.Int.{to_z-of_z, ints}}
use Rattle.mob_frac.proofs.Operations.{zero-sub, nonzero, inverse_above, inverse_below}
use Rattle.mob_frac.proofs.fraction.Frac.inverse.Goals as goal

pub invariant_of-result : goal.invariant_of-result
invariant_of-result c =
    let a : FitsSigned w64 c.self.inside.num = search rules in
    let b : FitsSigned w64 c.self.inside.den = search rules in
    let p : pos 0 <ℤ c.self.inside.num = omega (arith, ints) in
    simp to_z-of_z (inverse_above c.self.inside c.self.invariant p).0

pub returns-then-self-gt0 : goal.returns-then-self-gt0
returns-then-self-gt0 c =
    let a : FitsSigned w64 c.self.inside.num = search rules in
    let b : FitsSigned w64 c.self.inside.den = search rules in
    let p : pos 0 <ℤ c.self.inside.num = omega (arith, ints) in
    record { value = rw (← c.self.view_is) (simp to_z-of_z (inverse_above c.self.inside c.self.invariant p).1) }

pub invariant_of-result-2 : goal.invariant_of-result-2
invariant_of-result-2 c =
    let a : FitsSigned w64 c.self.inside.num = search rules in
    let b : FitsSigned w64 c.self.inside.den = search rules in
    let d : FitsSigned w64 (neg_ℤ c.self.inside.num) = omega (arith, ints, c.self.invariant.num_fits) in
    let e : FitsSigned w64 (neg_ℤ c.self.inside.den) = omega (arith, ints, c.self.invariant.den_fits) in
    let l : c.self.inside.num ≤ℤ pos 0 = omega (arith, ints) in
    let n = nonzero c.self.inside c.self.invariant (λ z. c.requires.nonzero (sym c.self.view_is ∙ z)) l in
    simp (to_z-of_z, zero-sub) (inverse_below c.self.inside c.self.invariant n).0

pub returns : goal.returns
returns c =
    let a : FitsSigned w64 c.self.inside.num = search rules in
    let b : FitsSigned w64 c.self.inside.den = search rules in
    let d : FitsSigned w64 (neg_ℤ c.self.inside.num) = omega (arith, ints, c.self.invariant.num_fits) in
    let e : FitsSigned w64 (neg_ℤ c.self.inside.den) = omega (arith, ints, c.self.invariant.den_fits) in
    let l : c.self.inside.num ≤ℤ pos 0 = omega (arith, ints) in
    let n = nonzero c.self.inside c.self.invariant (λ z. c.requires.nonzero (sym c.self.view_is ∙ z)) l in
    record { value = rw (← c.self.view_is) (simp (to_z-of_z, zero-sub) (inverse_below c.self.inside c.self.invariant n).1) }
