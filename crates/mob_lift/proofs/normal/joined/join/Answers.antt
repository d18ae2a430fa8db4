use Rattle.std.proofs.Common.{rules}
use Rattle.mob_lift.proofs.Joins.{join_one, join_two, join_kept}
use Rattle.mob_lift.proofs.normal.joined.join.Goals as goal

pub returns-then-continues : goal.returns-then-continues
returns-then-continues g c = record {
  joined =
      rw (c.joined.ensures.ends, c.of.ensures.limits, c.in_ok-from.ensures.same, c.in_ok-to.ensures.same, c.start.ensures.limit, c.end.ensures.limit)
      (join_one g.met.C.Course.laws c.args.first c.args.second c.requires.first_sound c.requires.second_sound (search rules) (search rules));
}

pub returns-then-same : goal.returns-then-same
returns-then-same g c = record {
  joined =
      rw c.moved.ensures.moved
      (join_two g.met.C.Course.laws c.args.first c.args.second c.requires.first_sound c.requires.second_sound (search rules) (search rules) (search rules) (search rules) (search rules));
}

pub returns : goal.returns
returns g c = record {
  joined = join_kept g.met.C.Course.laws c.args.first c.args.second c.requires.first_sound c.requires.second_sound c.requires.clear (search rules) (search rules) (search rules);
}
