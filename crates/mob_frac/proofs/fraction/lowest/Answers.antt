use Rattle.std.{specs.Int.{w64}, proofs.Common.{rules, nat_abs, ◌≤◌, FitsSigned, arith}, proofs.lemmas.Int.{to_z-of_z}}
use Rattle.mob_frac.proofs.Reductions.{common_positive, quotients}
use Rattle.mob_frac.proofs.fraction.lowest.Goals as goal

pub part-requires : goal.part-requires
part-requires c =
    let n = c.ranges.num in
    let d = c.ranges.den in
    let f : FitsSigned w64 c.divisor-common.result = search rules in
    record { positive = simp to_z-of_z (common_positive c.args.num c.args.den c.divisor-common.result c.requires.positive (simp to_z-of_z at c.divisor-common.ensures.value)) }

pub part-requires-2 : goal.part-requires-2
part-requires-2 c =
    let n = c.ranges.num in
    let d = c.ranges.den in
    let f : FitsSigned w64 c.divisor-common.result = search rules in
    record { positive = simp to_z-of_z (common_positive c.args.num c.args.den c.divisor-common.result c.requires.positive (simp to_z-of_z at c.divisor-common.ensures.value)) }

pub invariant_of-result : goal.invariant_of-result
invariant_of-result c =
    let n = c.ranges.num in
    let d = c.ranges.den in
    let f : FitsSigned w64 c.divisor-common.result = search rules in
    let t : FitsSigned w64 c.part.result = search rules in
    let b : FitsSigned w64 c.part-2.result = search rules in
    let l = (quotients c.args.num c.args.den c.divisor-common.result c.part.result c.part-2.result c.requires.positive (simp to_z-of_z at c.divisor-common.ensures.value) (simp to_z-of_z at c.part.ensures.value) (simp to_z-of_z at c.part-2.ensures.value)).0 in
    let top : nat_abs c.part.result ≤ nat_abs c.args.num = simp to_z-of_z at c.part.ensures.size in
    let bottom : nat_abs c.part-2.result ≤ nat_abs c.args.den = simp to_z-of_z at c.part-2.ensures.size in
    simp to_z-of_z record { den_positive = l.den_positive; num_fits = omega (arith, top, c.requires.num); den_fits = omega (arith, bottom, c.requires.den); lowest = l.lowest }

pub returns : goal.returns
returns c =
    let n = c.ranges.num in
    let d = c.ranges.den in
    let f : FitsSigned w64 c.divisor-common.result = search rules in
    let t : FitsSigned w64 c.part.result = search rules in
    let b : FitsSigned w64 c.part-2.result = search rules in
    record { value = simp to_z-of_z (quotients c.args.num c.args.den c.divisor-common.result c.part.result c.part-2.result c.requires.positive (simp to_z-of_z at c.divisor-common.ensures.value) (simp to_z-of_z at c.part.ensures.value) (simp to_z-of_z at c.part-2.ensures.value)).1 }
