use Rattle.mob_slice.proofs.Cuts.{low_after, low_until, high_after, high_until}
use Rattle.mob_near.proofs.leg.ends_on.Goals as goal

pub point_at-requires-clause-after : goal.point_at-requires-clause-after
point_at-requires-clause-after c = low_after c.args.slice.now.span c.args.span.now _ c.requires.holds.1 c.lower.ensures.value

pub point_at-requires-clause-until : goal.point_at-requires-clause-until
point_at-requires-clause-until c = low_until c.args.slice.now.span c.args.span.now _ c.requires.holds.1 c.lower.ensures.some c.lower.ensures.value

pub point_at-requires-2-clause-after : goal.point_at-requires-2-clause-after
point_at-requires-2-clause-after c = high_after c.args.slice.now.span c.args.span.now _ c.requires.holds.1 c.lower.ensures.some c.upper.ensures.value

pub point_at-requires-2-clause-until : goal.point_at-requires-2-clause-until
point_at-requires-2-clause-until c = high_until c.args.slice.now.span c.args.span.now _ c.requires.holds.1 c.upper.ensures.value
