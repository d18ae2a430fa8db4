use Rattle.std.{specs.List.{AllByRecursion}, proofs.Common.{◌≡◌}}
use Rattle.mob_span.specs.Walk.{meets_left}
use Rattle.mob_slice.specs.Sides.{Slices, pieces}
use Rattle.mob_legs.specs.Covers.{nearer_of}
use Rattle.mob_near.{specs.Wide.{least_approach}, proofs.Stretches.{AreRunsOf, least_in}}
use Rattle.mob_near.proofs.covered.least_of_stretches.Given as goal

abbrev pub invariant-loop-both : goal.invariant-loop-both
invariant-loop-both l = record {
  goes : (goal.iterator-loop-both).can_next l.both-iterator;
  ends : (goal.iterator-loop-both).is_finite l.both-iterator;
  hold : AllByRecursion (AreRunsOf l.v l.w) (meets_left (λ c. c.span) (λ c. c.span) l.both-iterator);
  rest : nearer_of l.nearest (least_in l.v l.w (meets_left (λ c. c.span) (λ c. c.span) l.both-iterator)) ≡ least_approach (pieces (Slices l.v) (Slices l.w));
}
