use Rattle.std.{specs.Int.{w64}, proofs.Common.{nat_abs, FitsSigned, ◌<◌, ◌^◌, arith, refl}, proofs.lemmas.Int.{to_z-of_z, ints}}
use Rattle.mob_frac.proofs.Roughs.{fits_over}
use Rattle.mob_frac.proofs.rough.fitting.Goals as goal

pub returns-then-den-lt-LIMIT : goal.returns-then-den-lt-LIMIT
returns-then-den-lt-LIMIT c =
    let f = c.ranges.num in
    let g = c.ranges.den in
    let n : nat_abs c.args.num < 2 ^ 62 = omega (arith, ints) in
    let d : nat_abs c.args.den < 2 ^ 62 = omega (arith, ints, c.requires.positive) in
    let h : FitsSigned w64 c.args.num = omega (arith, ints) in
    let k : FitsSigned w64 c.args.den = omega (arith, ints) in
    record { fits = simp to_z-of_z (refl, fits_over c.args.num c.args.den c.requires.positive n d) }
