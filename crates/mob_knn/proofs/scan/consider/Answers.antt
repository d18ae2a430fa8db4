use Rattle.std.proofs.Common.{inl, refl}
use Rattle.mob_knn.proofs.scan.consider.Goals as goal

pub returns-in-Some : goal.returns-in-Some
returns-in-Some c = record { considered = rw c.in-Some.is c.consider_trip.ensures.considered }

pub returns-in-None : goal.returns-in-None
returns-in-None c = record { considered = inl ((λ m h. let none = rw c.in-None.is at h in absurd none), refl) }
