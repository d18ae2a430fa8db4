use Rattle.std.{specs.Int.{w128}, proofs.Common.{rules, FitsSigned}, proofs.lemmas.Int.{to_z-of_z}}
use Rattle.mob_frac.proofs.Roughs.{carried}
use Rattle.mob_frac.proofs.wide.Wide.rough.Goals as goal

pub fitting-requires : goal.fitting-requires
fitting-requires c = let d : FitsSigned w128 c.self.inside.den = search rules in record { positive = simp to_z-of_z c.self.invariant.den_positive }

pub returns : goal.returns
returns c =
    let n : FitsSigned w128 c.self.inside.num = search rules in
    let d : FitsSigned w128 c.self.inside.den = search rules in
    record { value = carried c.fitting.result _ _ c.self.view_is (simp to_z-of_z at c.fitting.ensures.fits) }
