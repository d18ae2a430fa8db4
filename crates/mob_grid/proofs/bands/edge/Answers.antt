use Rattle.std.{specs.Int.{w64, w128}, proofs.Common.{rules, FitsSigned, subst, arith}, proofs.lemmas.Int.{to_z-of_z, ints}}
use Rattle.mob_frac.{specs.Fits.{IsExact}, proofs.Sharing.{den_positive}}
use Rattle.mob_grid.proofs.BandNumbers.{edge_is}
use Rattle.mob_grid.proofs.bands.edge.Goals as goal

pub from_wide-requires : goal.from_wide-requires
from_wide-requires c =
    let f : FitsSigned w64 c.den.result = search rules in
    let g : FitsSigned w128 c.den.result = omega (arith, ints) in
    record { positive = simp to_z-of_z (den_positive c.args.c.now c.den.result c.den.ensures.value) }

pub returns : goal.returns
returns c =
    let f : FitsSigned w64 c.den.result = search rules in
    let g : FitsSigned w128 c.den.result = omega (arith, ints) in
    let h : FitsSigned w64 c.num.result = search rules in
    let i = c.ranges.n in
    let j : FitsSigned w128 c.product.result = search rules in
    let top = rw c.num.ensures.value at (simp to_z-of_z at c.product.ensures.value) in
    let made = rw (top, c.den.ensures.value) at (simp to_z-of_z at c.from_wide.ensures.exact) in
    record { exact = subst (λ z. IsExact z c.from_wide.result) (edge_is c.args.n c.args.c.now) made }
