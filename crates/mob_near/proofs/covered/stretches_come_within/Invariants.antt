use Rattle.std.{specs.List.{AllByRecursion}, proofs.Common.{◌≡◌}}
use Rattle.mob_span.specs.Walk.{meets_left}
use Rattle.mob_slice.specs.Sides.{Slices, pieces}
use Rattle.mob_legs.specs.Covers.{some_reach}
use Rattle.mob_near.proofs.Stretches.{AreRunsOf, reach_all}
use Rattle.mob_near.proofs.covered.stretches_come_within.Given as goal

abbrev pub invariant-loop-both : goal.invariant-loop-both
invariant-loop-both l = record {
  goes : (goal.iterator-loop-both).can_next l.both-iterator;
  ends : (goal.iterator-loop-both).is_finite l.both-iterator;
  hold : AllByRecursion (AreRunsOf l.v l.w) (meets_left (λ c. c.span) (λ c. c.span) l.both-iterator);
  rest : reach_all l.square l.v l.w (meets_left (λ c. c.span) (λ c. c.span) l.both-iterator) ≡ some_reach l.square (pieces (Slices l.v) (Slices l.w));
}
