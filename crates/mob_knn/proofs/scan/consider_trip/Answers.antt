use Rattle.std.{proofs.Common.{inl, inr, refl}, proofs.lemmas.Result.{on_ok_weaker}}
use Rattle.mob_slice.specs.Sides.{operand_of}
use Rattle.mob_knn.proofs.Scanning.{none_there}
use Rattle.mob_knn.proofs.scan.consider_trip.Goals as goal

pub returns-then-out : goal.returns-then-out
returns-then-out c = record { considered = inl (rw c.as_slice.ensures.value at (c.in_ok-out.ensures.out c.if-out.true), refl) }

pub returns-in-Some : goal.returns-in-Some
returns-in-Some c = record { considered = on_ok_weaker c.put.result (λ e. inr (c.in-Some.m, rw c.in-Some.is at c.in_ok-m.ensures.value, e)) c.put.ensures.put }

pub returns-in-None : goal.returns-in-None
returns-in-None c = record { considered = inl (none_there (operand_of c.args.asked.now) c.args.trip.now c.args.k c.args.best.now.items (rw c.in-None.is at c.in_ok-m.ensures.value), refl) }
