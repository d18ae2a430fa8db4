use Rattle.mob_arith.proofs.sql.arithmetic.lifted.Goals as goal

pub returns-in-Sum : goal.returns-in-Sum
returns-in-Sum c = rw c.in-Sum.is (record { value = c.plus.ensures.value; first = c.plus.ensures.first })

pub returns-in-Difference : goal.returns-in-Difference
returns-in-Difference c = rw c.in-Difference.is (record { value = c.minus.ensures.value; first = c.minus.ensures.first })

pub returns-in-Product : goal.returns-in-Product
returns-in-Product c = rw c.in-Product.is (record { value = c.times.ensures.value; first = c.times.ensures.first })
