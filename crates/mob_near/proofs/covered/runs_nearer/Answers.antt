use Rattle.std.proofs.Common.{◌≡◌, rules}
use Rattle.mob_span.specs.Walk.{lefts_of, rights_of}
use Rattle.mob_near.proofs.Stretches.{walked_start, nearer_start, walked_next, piece_counted, pieces_counted}
use Rattle.mob_near.proofs.covered.runs_nearer.Goals as goal

pub loop-met-init : goal.loop-met-init
loop-met-init c =
    let left : lefts_of c.into_iter-met-iterator.result ≡ c.args.v.now = search rules in
    let right : rights_of c.into_iter-met-iterator.result ≡ c.args.w.now = search rules in
    record {
      goes = search rules;
      ends = search rules;
      hold = walked_start c.args.v.now c.args.w.now _ _ left right c.requires.left c.requires.right;
      rest = nearer_start c.args.v.now c.args.w.now _ _ left right c.args.found;
    }

pub loop-met-preserved : goal.loop-met-preserved
loop-met-preserved c = record {
  goes = search rules;
  ends = search rules;
  hold = walked_next _ _ _ c.in-Some.ensures.steps c.loop-met.invariant.hold;
  rest = piece_counted _ _ _ _ _ _ c.in-Some.ensures.steps c.loop-met.invariant.rest c.in_ok-nearer_directly.ensures.value;
}

pub returns : goal.returns
returns c = record { value = pieces_counted _ _ _ c.in-None.ensures.steps.0 c.loop-met.invariant.rest }
