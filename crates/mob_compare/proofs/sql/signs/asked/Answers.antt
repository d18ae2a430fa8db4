use Rattle.mob_compare.proofs.sql.signs.asked.Goals as goal

pub returns-in-Err-clause-outcome : goal.returns-in-Err-clause-outcome
returns-in-Err-clause-outcome g c = rw (c.in-Some.is, c.in-Each.is) c.in-Err.ensures.first

pub returns-in-Ok-ever_in-clause-outcome : goal.returns-in-Ok-ever_in-clause-outcome
returns-in-Ok-ever_in-clause-outcome g c = rw (c.in-Some.is, c.in-Ever.is) ((c.in-Ok-ever_in.answer, c.in-Ok-ever_in.ensures.value, c.known.ensures.value), c.in-Ok-ever_in.ensures.first)

pub returns-in-Err-ever_in-clause-outcome : goal.returns-in-Err-ever_in-clause-outcome
returns-in-Err-ever_in-clause-outcome g c = rw (c.in-Some.is, c.in-Ever.is) c.in-Err-ever_in.ensures.first

pub returns-in-Ok-always_in-clause-outcome : goal.returns-in-Ok-always_in-clause-outcome
returns-in-Ok-always_in-clause-outcome g c = rw (c.in-Some.is, c.in-Always.is) ((c.in-Ok-always_in.answer, c.in-Ok-always_in.ensures.value, c.known-in-Ok-always_in.ensures.value), c.in-Ok-always_in.ensures.first)

pub returns-in-Err-always_in-clause-outcome : goal.returns-in-Err-always_in-clause-outcome
returns-in-Err-always_in-clause-outcome g c = rw (c.in-Some.is, c.in-Always.is) c.in-Err-always_in.ensures.first
