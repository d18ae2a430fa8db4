use Rattle.std.proofs.Common.{◌≡◌, rules, sym, ◌∙◌}
use Rattle.mob_span.specs.Walk.{lefts_of, rights_of}
use Rattle.mob_near.proofs.Stretches.{walked_start, reach_start, walked_next, piece_missed, piece_hit, pieces_missed}
use Rattle.mob_near.proofs.covered.runs_come_within.Goals as goal

pub loop-met-init : goal.loop-met-init
loop-met-init c =
    let left : lefts_of c.into_iter-met-iterator.result ≡ c.args.v.now = search rules in
    let right : rights_of c.into_iter-met-iterator.result ≡ c.args.w.now = search rules in
    record {
      goes = search rules;
      ends = search rules;
      hold = walked_start c.args.v.now c.args.w.now _ _ left right c.requires.left c.requires.right;
      rest = reach_start c.args.v.now c.args.w.now _ _ left right c.args.square.now;
    }

pub loop-met-preserved : goal.loop-met-preserved
loop-met-preserved c = record {
  goes = search rules;
  ends = search rules;
  hold = walked_next _ _ _ c.in-Some.ensures.steps c.loop-met.invariant.hold;
  rest = piece_missed _ _ _ _ _ c.in-Some.ensures.steps c.loop-met.invariant.rest (sym c.in_ok-here.ensures.value ∙ c.if-here.false);
}

pub returns-then-here : goal.returns-then-here
returns-then-here c = record { value = piece_hit _ _ _ _ _ c.in-Some.ensures.steps c.loop-met.invariant.rest (sym c.in_ok-here.ensures.value ∙ c.if-here.true) }

pub returns : goal.returns
returns c = record { value = pieces_missed _ _ _ c.in-None.ensures.steps.0 c.loop-met.invariant.rest }
