use Rattle.std.{specs.Int.{w64, w128}, proofs.Common.{rules, FitsSigned, ◌∙◌}, proofs.lemmas.Int.{to_z-of_z}}
use Rattle.mob_grid.proofs.BandNumbers.{bottom_positive, band_by_parts}
use Rattle.mob_grid.proofs.bands.band.Goals as goal

pub quotient-requires : goal.quotient-requires
quotient-requires c =
    let f : FitsSigned w64 c.den-2.result = search rules in
    let g : FitsSigned w64 c.num-2.result = search rules in
    let h : FitsSigned w128 c.product-2.result = search rules in
    let bottom = rw (c.den-2.ensures.value, c.num-2.ensures.value) at (simp to_z-of_z at c.product-2.ensures.value) in
    record { positive = simp to_z-of_z (rw bottom (bottom_positive c.args.c.now c.args.x.now c.requires.positive)) }

pub returns : goal.returns
returns c =
    let f : FitsSigned w64 c.den-2.result = search rules in
    let g : FitsSigned w64 c.num-2.result = search rules in
    let h : FitsSigned w128 c.product-2.result = search rules in
    let i : FitsSigned w64 c.den.result = search rules in
    let j : FitsSigned w64 c.num.result = search rules in
    let k : FitsSigned w128 c.product.result = search rules in
    let q : FitsSigned w128 c.quotient.result = search rules in
    let top = rw (c.num.ensures.value, c.den.ensures.value) at (simp to_z-of_z at c.product.ensures.value) in
    let bottom = rw (c.den-2.ensures.value, c.num-2.ensures.value) at (simp to_z-of_z at c.product-2.ensures.value) in
    let made = rw (top, bottom) at (simp to_z-of_z at c.quotient.ensures.value) in
    record { value = simp to_z-of_z (made ∙ band_by_parts c.args.c.now c.args.x.now c.requires.positive) }
