use Rattle.std.proofs.Common.{◌≡◌, rules, sym, ◌∙◌}
use Rattle.mob_span.specs.Walk.{lefts_of, rights_of}
use Rattle.mob_near.proofs.Stretches.{runs_all, runs_start, runs_next, runs_missed, runs_hit, all_missed}
use Rattle.mob_near.proofs.covered.stretches_come_within.Goals as goal

pub loop-both-init : goal.loop-both-init
loop-both-init c =
    let left : lefts_of c.into_iter-both-iterator.result ≡ c.args.over_v.now = search rules in
    let right : rights_of c.into_iter-both-iterator.result ≡ c.args.over_w.now = search rules in
    record {
      goes = search rules;
      ends = search rules;
      hold = runs_all c.args.v.now c.args.w.now c.args.over_v.now c.args.over_w.now _ _ left right c.requires.left_covers c.requires.right_covers;
      rest = runs_start c.args.square.now c.args.v.now c.args.w.now c.args.over_v.now c.args.over_w.now _ _ left right c.requires.left_covers c.requires.right_covers;
    }

pub loop-both-preserved : goal.loop-both-preserved
loop-both-preserved c = record {
  goes = search rules;
  ends = search rules;
  hold = runs_next c.args.v.now c.args.w.now _ _ _ c.in-Some.ensures.steps c.loop-both.invariant.hold;
  rest = runs_missed _ c.args.v.now c.args.w.now _ _ _ _ c.in-Some.ensures.steps c.loop-both.invariant.rest (sym c.in_ok-here.ensures.value ∙ c.if-here.false);
}

pub returns-then-here : goal.returns-then-here
returns-then-here c = record { value = runs_hit _ c.args.v.now c.args.w.now _ _ _ _ c.in-Some.ensures.steps c.loop-both.invariant.rest (sym c.in_ok-here.ensures.value ∙ c.if-here.true) }

pub returns : goal.returns
returns c = record { value = all_missed _ c.args.v.now c.args.w.now _ _ c.in-None.ensures.steps.0 c.loop-both.invariant.rest }
