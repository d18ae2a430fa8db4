use Rattle.std.proofs.Common.{◌≡◌, rules}
use Rattle.mob_span.specs.Walk.{lefts_of, rights_of}
use Rattle.mob_near.proofs.Stretches.{runs_all, least_start, runs_next, runs_counted, all_counted}
use Rattle.mob_near.proofs.covered.least_of_stretches.Goals as goal

pub loop-both-init : goal.loop-both-init
loop-both-init c =
    let left : lefts_of c.into_iter-both-iterator.result ≡ c.args.over_v.now = search rules in
    let right : rights_of c.into_iter-both-iterator.result ≡ c.args.over_w.now = search rules in
    record {
      goes = search rules;
      ends = search rules;
      hold = runs_all c.args.v.now c.args.w.now c.args.over_v.now c.args.over_w.now _ _ left right c.requires.left_covers c.requires.right_covers;
      rest = least_start c.args.v.now c.args.w.now c.args.over_v.now c.args.over_w.now _ _ left right c.requires.left_covers c.requires.right_covers;
    }

pub loop-both-preserved : goal.loop-both-preserved
loop-both-preserved c = record {
  goes = search rules;
  ends = search rules;
  hold = runs_next c.args.v.now c.args.w.now _ _ _ c.in-Some.ensures.steps c.loop-both.invariant.hold;
  rest = runs_counted c.args.v.now c.args.w.now _ _ _ _ _ _ c.in-Some.ensures.steps c.loop-both.invariant.rest c.in_ok-next.ensures.value;
}

pub returns : goal.returns
returns c = record { least = all_counted c.args.v.now c.args.w.now _ _ _ c.in-None.ensures.steps.0 c.loop-both.invariant.rest }
