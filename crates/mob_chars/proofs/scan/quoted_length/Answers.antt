use Rattle.std.proofs.Common.{◌∙◌, arith}
use Rattle.mob_chars.proofs.Quoted.{plain_at, doubled_at}
use Rattle.mob_chars.proofs.scan.quoted_length.Goals as goal

pub loop-at-preserved-then-text-at-ne39 : goal.loop-at-preserved-then-text-at-ne39
loop-at-preserved-then-text-at-ne39 c = record {
  within = omega arith;
  so_far = c.loop-at.invariant.so_far ∙ plain_at c.args.text.now c.loop-at.at c.loop-at-test.true c.if-text-at-ne39.true;
}

pub loop-at-preserved : goal.loop-at-preserved
loop-at-preserved c = record {
  within = omega arith;
  so_far = c.loop-at.invariant.so_far ∙ doubled_at c.args.text.now c.loop-at.at c.if-at-text.true c.if-text-at-ne39.false c.if-text-at-eq39.true;
}
