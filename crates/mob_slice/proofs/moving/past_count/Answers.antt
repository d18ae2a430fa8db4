use Rattle.std.{proofs.Common.{rules, of_calls}, proofs.lemmas.Fn.{always_returns_same}}
use Rattle.mob_span.specs.Remainders.{follows}
use Rattle.mob_slice.proofs.Bisection.{parted}
use Rattle.mob_slice.proofs.moving.past_count.Goals as goal

pub returns-clause-count : goal.returns-clause-count
returns-clause-count g c = c.partition_point.ensures.partitioned (λ s. follows c.args.t.now s.span) (always_returns_same _ _ _ (λ a r f k. search (rules, of_calls))) (parted g.C.Course.start_of g.C.Course.end_of c.args.t.now c.args.slices.now c.requires.ordered)
