use Rattle.std.{specs.Int.{w128}, proofs.Common.{rules, nat_abs, FitsSigned}, proofs.lemmas.Int.{to_z-of_z}}
use Rattle.mob_frac.proofs.Reductions.{gcd_positive, quotients, lowest_coprime}
use Rattle.mob_frac.proofs.fraction.shortened.Goals as goal

pub from_parts-requires : goal.from_parts-requires
from_parts-requires c =
    let n = c.ranges.num in
    let d = c.ranges.den in
    let f : FitsSigned w128 c.common-common.result = search rules in
    let e = simp to_z-of_z at c.common-common.ensures.value in
    record { lowest = simp to_z-of_z (lowest_coprime c.args.num c.args.den c.common-common.result c.requires.positive e ((simp to_z-of_z at c.is_unit.ensures.unit).0 c.if-is_unit.true)) }

pub returns-then-is_unit : goal.returns-then-is_unit
returns-then-is_unit c =
    let n = c.ranges.num in
    let d = c.ranges.den in
    record { exact = simp to_z-of_z at c.from_parts.ensures.exact }

pub quotient-requires : goal.quotient-requires
quotient-requires c =
    let f : FitsSigned w128 c.common-common.result = search rules in
    let n = c.ranges.num in
    let d = c.ranges.den in
    let e = simp to_z-of_z at c.common-common.ensures.value in
    record { positive = simp to_z-of_z (rw e (gcd_positive (nat_abs c.args.num) c.args.den c.requires.positive)) }

pub quotient-requires-2 : goal.quotient-requires-2
quotient-requires-2 c =
    let f : FitsSigned w128 c.common-common.result = search rules in
    let n = c.ranges.num in
    let d = c.ranges.den in
    let e = simp to_z-of_z at c.common-common.ensures.value in
    record { positive = simp to_z-of_z (rw e (gcd_positive (nat_abs c.args.num) c.args.den c.requires.positive)) }

pub from_parts-requires-2 : goal.from_parts-requires-2
from_parts-requires-2 c =
    let f : FitsSigned w128 c.common-common.result = search rules in
    let n = c.ranges.num in
    let d = c.ranges.den in
    let t : FitsSigned w128 c.quotient.result = search rules in
    let b : FitsSigned w128 c.quotient-2.result = search rules in
    let e = simp to_z-of_z at c.common-common.ensures.value in
    record { lowest = simp to_z-of_z (quotients c.args.num c.args.den c.common-common.result c.quotient.result c.quotient-2.result c.requires.positive e (simp to_z-of_z at c.quotient.ensures.value) (simp to_z-of_z at c.quotient-2.ensures.value)).0 }

pub returns : goal.returns
returns c =
    let f : FitsSigned w128 c.common-common.result = search rules in
    let n = c.ranges.num in
    let d = c.ranges.den in
    let t : FitsSigned w128 c.quotient.result = search rules in
    let b : FitsSigned w128 c.quotient-2.result = search rules in
    let e = simp to_z-of_z at c.common-common.ensures.value in
    let q = quotients c.args.num c.args.den c.common-common.result c.quotient.result c.quotient-2.result c.requires.positive e (simp to_z-of_z at c.quotient.ensures.value) (simp to_z-of_z at c.quotient-2.ensures.value) in
    record { exact = rw q.1 at (simp to_z-of_z at c.from_parts-2.ensures.exact) }
