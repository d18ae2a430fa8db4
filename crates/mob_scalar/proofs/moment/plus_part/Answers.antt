use Rattle.std.{proofs.Common.{◌≡◌, ℕ, ◌*◌, arith}, proofs.lemmas.Int.{to_z-of_z}}
use Rattle.mob_scalar.proofs.Parts.{whole_fits, part_fits}
use Rattle.mob_scalar.proofs.moment.plus_part.Goals as goal

once : (n : ℕ) → n * 1 ≡ n
once n = omega arith

pub returns-in-Err : goal.returns-in-Err
returns-in-Err c = record { exact = λ fits. c.in-Err.ensures.exact (rw (once c.args.part.denominator) (part_fits c.args.n c.args.part.numerator c.args.part.denominator c.requires.part.below fits)) }

pub returns-in-Err-whole_number : goal.returns-in-Err-whole_number
returns-in-Err-whole_number c = let f = c.ranges.n in record { exact = λ fits. absurd ((simp to_z-of_z at c.in-Err-whole_number.ensures.exact) (whole_fits c.args.n c.requires.bound)) }
