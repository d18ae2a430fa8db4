use Rattle.std.proofs.lemmas.Int.{to_z-of_z}
use Rattle.mob_scalar.proofs.Parts.{whole_over}
use Rattle.mob_scalar.proofs.moment.whole_number.Goals as goal

pub returns : goal.returns
returns c = let f = c.ranges.n in record { exact = rw (whole_over c.args.n) (simp to_z-of_z at c.new.ensures.exact) }
