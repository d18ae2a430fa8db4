use Rattle.std.proofs.Common.{◌≡◌, ◌++◌, map}
use Rattle.mob_span.{specs.Meets.{shared_pieces}, specs.Walk.{meets_left}}
use Rattle.mob_span.proofs.set.shared.Given as goal

abbrev pub invariant-loop-met : goal.invariant-loop-met
invariant-loop-met l = record {
  goes : (goal.iterator-loop-met).can_next l.met-iterator;
  ends : (goal.iterator-loop-met).is_finite l.met-iterator;
  same : l.spans.items ++ map (λ p. p.span) (meets_left (λ s. s) (λ s. s) l.met-iterator) ≡ map (λ p. p.span) (shared_pieces (λ s. s) (λ s. s) l.fn.lefts l.fn.rights);
}
