use Rattle.std.{specs.List.{AllByRecursion}, proofs.Common.{◌≡◌, map}}
use Rattle.mob_span.specs.Walk.{meets_left}
use Rattle.mob_slice.specs.Sides.{Slices, pieces}
use Rattle.mob_lift.specs.Pieces.{both_move}
use Rattle.mob_legs.specs.Covers.{some_reach}
use Rattle.mob_near.proofs.Stretches.{IsWalked}
use Rattle.mob_near.proofs.covered.runs_come_within.Given as goal

abbrev pub invariant-loop-met : goal.invariant-loop-met
invariant-loop-met l = record {
  goes : (goal.iterator-loop-met).can_next l.met-iterator;
  ends : (goal.iterator-loop-met).is_finite l.met-iterator;
  hold : AllByRecursion IsWalked (meets_left (λ s. s.span) (λ s. s.span) l.met-iterator);
  rest : some_reach l.square (map both_move (meets_left (λ s. s.span) (λ s. s.span) l.met-iterator)) ≡ some_reach l.square (pieces (Slices l.v) (Slices l.w));
}
