use Rattle.std.proofs.Common.{rules, inl, inr}
use Rattle.mob_knn.proofs.Bounds.{apart_means, found_apart, found_least, least_means, found_nil}
use Rattle.mob_knn.proofs.gaps.measure.gap.Goals as goal

pub returns-then-are_apart-clause-means : goal.returns-then-are_apart-clause-means
returns-then-are_apart-clause-means c _ _ = apart_means c.args.b.now.time c.args.q.now.time (search rules)

pub returns-then-are_apart-clause-value : goal.returns-then-are_apart-clause-value
returns-then-are_apart-clause-value c = found_apart c.args.b.now c.args.q.now (search rules)

pub returns-in-Some-Some-clause-means : goal.returns-in-Some-Some-clause-means
returns-in-Some-Some-clause-means c _ _ = least_means c.args.b.now c.args.q.now _ _ _ (search rules) (search rules) (search rules) (search rules) (search rules) c.area_gap_or_zero.ensures.value

pub returns-in-Some-Some-clause-value : goal.returns-in-Some-Some-clause-value
returns-in-Some-Some-clause-value c = found_least c.args.b.now c.args.q.now _ _ _ (search rules) (search rules) (search rules) c.area_gap_or_zero.ensures.value

pub returns-in-None-default-clause-value : goal.returns-in-None-default-clause-value
returns-in-None-default-clause-value c = found_nil c.args.b.now c.args.q.now _ (search rules) (inl (search rules)) c.zero-in-None-default.ensures.value

pub returns-in-Some-None-clause-value : goal.returns-in-Some-None-clause-value
returns-in-Some-None-clause-value c = found_nil c.args.b.now c.args.q.now _ (search rules) (inr (search rules)) c.zero.ensures.value
