use Rattle.std.{specs.List.{AllByRecursion}, proofs.Common.{◌≡◌, map}}
use Rattle.mob_span.specs.Walk.{meets_left}
use Rattle.mob_slice.specs.Sides.{Slices, pieces}
use Rattle.mob_lift.specs.Pieces.{both_move}
use Rattle.mob_legs.specs.Covers.{nearer_of}
use Rattle.mob_near.{specs.Wide.{least_approach}, proofs.Stretches.{IsWalked}}
use Rattle.mob_near.proofs.covered.runs_nearer.Given as goal

abbrev pub invariant-loop-met : goal.invariant-loop-met
invariant-loop-met l = record {
  goes : (goal.iterator-loop-met).can_next l.met-iterator;
  ends : (goal.iterator-loop-met).is_finite l.met-iterator;
  hold : AllByRecursion IsWalked (meets_left (λ s. s.span) (λ s. s.span) l.met-iterator);
  rest : nearer_of l.nearest (least_approach (map both_move (meets_left (λ s. s.span) (λ s. s.span) l.met-iterator))) ≡ nearer_of l.fn.found (least_approach (pieces (Slices l.v) (Slices l.w)));
}
