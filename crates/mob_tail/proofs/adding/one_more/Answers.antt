use Rattle.std.proofs.Common.{sym}
use Rattle.mob_tail.{specs.Made.{made_in}, proofs.Aggregating.{no_count, no_count_known, count_with, count_known_with}}
use Rattle.mob_tail.proofs.adding.one_more.Goals as goal

pub returns-in-None : goal.returns-in-None
returns-in-None c = record {
  with = λ ty v. no_count ty c.args.before.now v c.args.before.now (sym c.in-None.ensures.number);
  known = λ ty v u. no_count_known ty c.args.before.now v c.args.before.now (sym c.in-None.ensures.number);
}

pub returns-in-Some-clause-with : goal.returns-in-Some-clause-with
returns-in-Some-clause-with c = λ ty v. count_with ty c.args.before.now v c.in-Some.number (made_in c.sum_in.result c.sum_in.new.before) (sym c.in-Some.ensures.number) (rw c.one.ensures.value at c.sum_in.ensures.value) (rw c.one.ensures.value at c.sum_in.ensures.fits) (rw c.one.ensures.value at c.sum_in.ensures.fault)

pub returns-in-Some-clause-known : goal.returns-in-Some-clause-known
returns-in-Some-clause-known c = λ ty v u. count_known_with ty c.args.before.now v c.in-Some.number (made_in c.sum_in.result c.sum_in.new.before) u (sym c.in-Some.ensures.number) (rw c.one.ensures.value at c.sum_in.ensures.value) (rw c.one.ensures.value at c.sum_in.ensures.fits) (rw c.one.ensures.value at c.sum_in.ensures.fault)
